-- Which names are marked, and what the others are written as.
use Rattle.std.proofs.Common.{◌≡◌, ℕ, Bool, true, false, not, ◌||◌, ◌&&◌, ◌==◌, List, [], ◌∷◌, ◌++◌, length, cond, refl, ap, ◌∙◌}
use Rattle.std.specs.List.{list_all}
use Rattle.std.proofs.lemmas.Bool.{both_ways, cond-false, cond-true}
use Rattle.std.proofs.lemmas.List.Folds.{list_any_at, sum_by-zero}
use Rattle.memchr.specs.Find.{places}
use Rattle.memchr.proofs.lemmas.CallerLemmas.{length-places}
use Rattle.b3_lines.specs.Names.{escaped, is_escaped}
use Rattle.b3_lines.specs.Writing.{is_marked, mark, shown}
use Rattle.b3_lines.proofs.Escapes.{escaped-none}

-- one more byte, counted or not
marked-step : (b later counted : Bool) → counted ≡ not later → ((cond b 1 0 == 0) && counted) ≡ not (b || later)
marked-step true later counted same = refl
marked-step false later counted same = same

-- no byte is counted where the name is not marked
none-is_marked : (name : List ℕ) → list_all (λ b. cond (is_escaped b) 1 0 == 0) name ≡ not (is_marked name)
none-is_marked [] = refl
none-is_marked (b ∷ name) = marked-step (is_escaped b) (is_marked name) _ (none-is_marked name)

-- two denials
not-not : (b : Bool) → not (not b) ≡ b
not-not true = refl
not-not false = refl

-- a name is marked where the count of its escaped characters is not 0
pub is_marked-count : (name : List ℕ) (count : ℕ) → count ≡ length (places is_escaped name)
    → not (count == 0) ≡ is_marked name
is_marked-count name count counted =
    ap (λ n. not (n == 0)) (counted ∙ length-places is_escaped name)
    ∙ ap not (sum_by-zero (λ b. cond (is_escaped b) 1 0) name ∙ none-is_marked name) ∙ not-not (is_marked name)

-- a name that is not marked stands as it is
pub escaped-unmarked : (name : List ℕ) → is_marked name ≡ false → escaped name ≡ name
escaped-unmarked name unmarked =
    escaped-none name
    (λ k low within passes. both_ways (is_marked name) unmarked (list_any_at is_escaped name k 0 within passes))

-- what is made of the mark and the escaped form of a name that is not marked is made of no mark and the name
pub mark-unmarked : (f : List ℕ → List ℕ → List ℕ) (name : List ℕ) → is_marked name ≡ false
    → f (mark name) (escaped name) ≡ f [] name
mark-unmarked f name unmarked =
    ap (λ m. f m (escaped name)) (cond-false (is_marked name) _ _ unmarked) ∙ ap (f []) (escaped-unmarked name unmarked)

-- a name that is marked has the mark
pub mark-marked : (name : List ℕ) → is_marked name ≡ true → mark name ≡ 92 ∷ []
mark-marked name marked = cond-true (is_marked name) _ _ marked

-- the shown form of a name without mark is the name
pub shown-unmarked : (name : List ℕ) → is_marked name ≡ false → shown name ≡ name
unfolding shown
shown-unmarked = mark-unmarked (λ m text. m ++ text)

-- the shown form of a marked name has the mark in front
pub shown-marked : (name : List ℕ) → is_marked name ≡ true → shown name ≡ 92 ∷ escaped name
unfolding shown
shown-marked name marked = ap (λ m. m ++ escaped name) (mark-marked name marked)
