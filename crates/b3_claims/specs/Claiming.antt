-- What a seat knows of claims on the indexes below n: its parts, its list, and which indexes it has seen taken; and
-- what each call makes of that.
use Rattle.std.specs.Prelude.{ℕ, ◌+◌, ◌-◌, Bool, true, false, ◌||◌, ◌==◌, if◌then◌else◌, List, [], ◌∷◌, ◌++◌, replicate, slice_index_or, slice_set, sum_by}
use Rattle.b3_claims.specs.declared.claim_rule.View.{View}

abbrev pub one_if : Bool → ℕ
one_if true = 1
one_if false = 0

-- how often the index stands in the list
abbrev pub occurrences : ℕ → List ℕ → ℕ
occurrences i list = sum_by (λ x. one_if (x == i)) list

-- whether the row of truth values has the index
abbrev pub is_set : List Bool → ℕ → Bool
is_set row i = slice_index_or row i false

-- two rows, united place by place
abbrev pub united : List Bool → List Bool → List Bool
united [] ys = ys
united (x ∷ xs) [] = x ∷ xs
united (x ∷ xs) (y ∷ ys) = (x || y) ∷ united xs ys

-- the first seat: all parts, nothing claimed, nothing seen
abbrev pub newcomer : ℕ → View
newcomer n = record { parts = 128; claimed = []; seen = replicate n false }

-- after a swap of the word of index i by 1, which won the index or lost it
abbrev pub tried : View → ℕ → Bool → View
tried v i won = record v { claimed = if won then v.claimed ++ i ∷ [] else v.claimed; seen = slice_set v.seen i true }

-- after one part was handed over, and the seat that has this part
abbrev pub one_less : View → View
one_less v = record v { parts = v.parts - 1 }

abbrev pub one_part : View → View
one_part v = record { parts = 1; claimed = []; seen = v.seen }

-- after the other seat was joined
abbrev pub joined : View → View → View
joined v w = record { parts = v.parts + w.parts; claimed = v.claimed ++ w.claimed; seen = united v.seen w.seen }
