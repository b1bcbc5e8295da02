-- The words of claims, after one became 1.
use Rattle.std.proofs.Common.{◌≡◌, ◌≢◌, ℕ, zero, suc, ◌+◌, ◌<◌, ◌≤◌, Bool, true, false, eqb, eq-eqb, ne_eqb, true≢false, List, length, set, sym, subst, ◌∙◌, refl, arith}
use Rattle.std.specs.Prelude.{slice_index}
use Rattle.std.proofs.lemmas.List.{get_or-set_same, get_or-set_other}
use mathlib.Core.Logic.{dite}
use native.Mathlib.Decide.{ℕ_discrete}
use Rattle.b3_claims.specs.Claiming.{one_if}

pub word-set_same : (words : List ℕ) (n i : ℕ) → length words ≡ n + 1 → i < n
    → slice_index (set words (i + 1) 1) (i + 1) ≡ 1
word-set_same words n i wide below = get_or-set_same words (i + 1) 1 0 (omega (arith, wide, below))

pub word-set_other : (words : List ℕ) (i j : ℕ) → j ≢ i
    → slice_index (set words (i + 1) 1) (j + 1) ≡ slice_index words (j + 1)
word-set_other words i j other = get_or-set_other words (i + 1) (j + 1) 1 0 (λ e. other (omega arith))

-- a word that is 1 stays 1
pub word-set_kept : (words : List ℕ) (n i j : ℕ) → length words ≡ n + 1 → i < n → slice_index words (j + 1) ≡ 1
    → slice_index (set words (i + 1) 1) (j + 1) ≡ 1
word-set_kept words n i j wide below one = dite (ℕ_discrete j i)
    (λ same. subst (λ (m : ℕ). slice_index (set words (i + 1) 1) (m + 1) ≡ 1) (sym same)
    (word-set_same words n i wide below))
    (λ other. word-set_other words i j other ∙ one)

-- the spare word stays
pub word-set_spare : (words : List ℕ) (i : ℕ) → slice_index (set words (i + 1) 1) 0 ≡ slice_index words 0
word-set_spare words i = get_or-set_other words (i + 1) 0 1 0 (λ e. absurd (omega arith))

pub word-set_bit : (words : List ℕ) (k j : ℕ) → k < length words → slice_index words j ≤ 1
    → slice_index (set words k 1) j ≤ 1
word-set_bit words k j below bit = dite (ℕ_discrete j k)
    (λ same. subst (λ (m : ℕ). slice_index (set words k 1) m ≤ 1) (sym same)
    (omega (arith, get_or-set_same words k 1 0 below)))
    (λ other. omega (arith, bit, get_or-set_other words k j 1 0 other))

-- a word that was 0 was won, and a word that was 1 was lost: in both cases the lists have the index once
pub once_from_swap : (word t : ℕ) (won : Bool) → word ≤ 1 → eqb word 0 ≡ won → t ≡ word → t + one_if won ≡ 1
once_from_swap word t true bit is same =
    dite (ℕ_discrete word 0) (λ e. omega (arith, e, same)) (λ ne. absurd (true≢false (sym is ∙ ne_eqb word 0 ne)))
once_from_swap zero t false bit is same = absurd (true≢false (sym (eq-eqb 0 0 refl) ∙ is))
once_from_swap (suc word) t false bit is same = omega (arith, bit, same)
