-- The steps that the table of claims takes: a swap, a look at the spare word, a part handed over, a seat joined.
use Rattle.std.proofs.Common.{◌≡◌, ℕ, ◌+◌, ◌<◌, ◌≤◌, Bool, true, false, eqb, true≢false, List, [], ◌∷◌, length, set, refl, sym, subst, ◌∙◌, arith, length-append, length-set}
use Rattle.std.specs.Prelude.{slice_index}
use mathlib.Core.Option.{some, none}
use lib.ListN.{get_elem?}
use Rattle.atomic_table.specs.Table.{State, Me, keeps, step, Allows, Splits, Joins}
use Rattle.atomic_table.proofs.Lists.{set_again, set_else, set_here}
use Rattle.b3_claims.specs.declared.claim_rule.View.{View}
use Rattle.b3_claims.specs.Claiming.{tried, one_less, one_part, joined}
use Rattle.b3_claims.specs.ClaimRule.{spent, AreLawful, IsSound, Tried, Told}
use Rattle.b3_claims.proofs.ClaimLaws.{AreLawful-joined, AreLawful-split, AreLawful-tried, IsSound_from_AreLawful}
use Rattle.b3_claims.proofs.ListPlaces.{length_from_get_elem?}

-- the rule over n indexes, as the table has it
abbrev Rule : ℕ → State (Unit {0}) View → Type 0
Rule n s = AreLawful n s.words s.views

-- where an index was won, there was room in the list
room_to_win : (n : ℕ) (words : List ℕ) (views : List View) (id : ℕ) (v : View) (i : ℕ) → 0 < v.parts
    → get_elem? views id ≡ some v → AreLawful n words (set views id (tried v i true))
    → length v.claimed < length v.seen
room_to_win n words views id v i part at h =
    let won : View = tried v i true in
    let here = set_here views id won (length_from_get_elem? views id v at) in
    let sound : IsSound won = IsSound_from_AreLawful n words (set views id won) id won part h here in
    omega (arith, sound.room, length-append v.claimed (i ∷ []), length-set v.seen i true)

pub Allows-Tried : (n slots id : ℕ) (me : Me (Unit {0}) View) (i : ℕ) → i < n → 0 < me.0.parts
    → Allows (Rule n) slots id me (i + 1) (λ _. 1) (Tried (step slots (i + 1) 1 0 none) me)
Allows-Tried n slots id me i below part s h homes at small =
    (tried v i won, keeps, tt, kept, λ j e. ((λ k. (tried v (same j e k) won, me.1)), room won kept))
  where
    v : View
    v = me.0

    won : Bool
    won = eqb (slice_index s.words (i + 1)) 0

    kept : AreLawful n (set s.words (i + 1) 1) (set s.views id (tried v i won))
    kept = AreLawful-tried n s.words s.views id v i won below part h at refl

    same : (j : ℕ) → i + 1 ≡ j + 1 → i ≡ j
    same j e = omega arith

    room : (b : Bool) → AreLawful n (set s.words (i + 1) 1) (set s.views id (tried v i b)) → b ≡ true
        → length v.claimed < length v.seen
    room true h' is = room_to_win n (set s.words (i + 1) 1) s.views id v i part at h'
    room false h' is = absurd (true≢false (sym is))

pub Allows-Told : (n slots id : ℕ) (me : Me (Unit {0}) View) → 0 < me.0.parts
    → Allows (Rule n) slots id me 0 (λ m. m) (Told (step slots 0 0 0 none) me)
Allows-Told n slots id me part s h homes at small =
    (me.0, keeps, tt, kept, (refl, IsSound_from_AreLawful n s.words s.views id me.0 part h at))
  where
    as_it_was : (words : List ℕ) → set words 0 (slice_index words 0) ≡ words
    as_it_was [] = refl
    as_it_was (x ∷ words) = refl

    kept : AreLawful n (set s.words 0 (slice_index s.words 0)) (set s.views id me.0)
    kept = subst (AreLawful n (set s.words 0 (slice_index s.words 0))) (sym (set_again s.views id me.0 at))
        (subst (λ (words : List ℕ). AreLawful n words s.views) (sym (as_it_was s.words)) h)

pub Splits-one_part : (n id : ℕ) (v : View) → 2 ≤ v.parts → Splits (Rule n) id v (one_less v) (one_part v)
Splits-one_part n id v two s h at = AreLawful-split n s.words s.views id v two h at

pub Joins-joined : (n id : ℕ) (v : View) (other : ℕ) (w : View) → 0 < v.parts → 0 < w.parts
    → Joins (Rule n) id v other w (joined v w) spent
Joins-joined n id v other w part their_part s h at apart there =
    AreLawful-joined n s.words s.views id v other w part their_part h at
    (sym (set_else s.views id other (joined v w) apart) ∙ there) there
