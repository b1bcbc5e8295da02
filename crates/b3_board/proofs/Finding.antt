-- A search by halves among ascending entries.
use Rattle.std.proofs.Common.{inl, inr, ◌≡◌, ℕ, ◌+◌, ◌<◌, ◌≤◌, List, length, arith, ap}
use Rattle.std.proofs.lemmas.Bool.{cases_lt}
use Rattle.b3_board.specs.Entries.{at, IsInOrder}
use Rattle.b3_board.specs.declared.entries.Entry.{Entry}

pub first_le : (es : List Entry) → IsInOrder es → (i j : ℕ) → i ≤ j → j < length es
    → (at es i).span.first ≤ (at es j).span.first
first_le es up i j le short =
    elim (cases_lt i j) [
      | inl less ↦ let h = up i j less short in omega arith
      | inr more ↦ let same : i ≡ j = omega arith in let e = ap (λ (k : ℕ). (at es k).span.first) same in omega arith
    ]

pub below_low : (es : List Entry) (first middle : ℕ) → IsInOrder es → middle < length es
    → (at es middle).span.first < first
    → (i : ℕ) → i < middle + 1 → (at es i).span.first < first
below_low es first middle up short less i lt = let h = first_le es up i middle (omega arith) short in omega arith

pub above_high : (es : List Entry) (first middle : ℕ) → IsInOrder es → first ≤ (at es middle).span.first
    → (i : ℕ) → middle ≤ i → i < length es → first ≤ (at es i).span.first
above_high es first middle up more i le short = let h = first_le es up middle i le short in omega arith

-- an entry is the only one with its first chunk
pub only_first : (es : List Entry) → IsInOrder es → (i j : ℕ) → i < length es → j < length es
    → (at es i).span.first ≡ (at es j).span.first → i ≡ j
only_first es up i j i_short j_short same =
    elim (cases_lt i j) [
      | inl less ↦ let h = up i j less j_short in absurd (omega arith)
      | inr more ↦
          elim (cases_lt j i) [
            | inl less ↦ let h = up j i less i_short in absurd (omega arith)
            | inr none ↦ omega arith
          ]
    ]
