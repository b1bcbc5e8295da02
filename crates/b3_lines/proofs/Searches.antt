-- Fronts of a text in which no byte passes a test.
use Rattle.std.proofs.Common.{◌≡◌, ℕ, suc, Bool, false, List, ◌∷◌, arith}
use Rattle.std.proofs.lemmas.Bool.{false_from_ne_true}
use Rattle.memchr.specs.Find.{Nowhere, Passes}

-- the front after the first byte
pub Nowhere-tail : (p : ℕ → Bool) (b : ℕ) (s : List ℕ) (k : ℕ) → Nowhere (Passes p (b ∷ s)) 0 (suc k)
    → Nowhere (Passes p s) 0 k
Nowhere-tail p b s k none j low high passes = none (suc j) (omega arith) (omega arith) passes

-- and the first byte
pub Nowhere-head : (p : ℕ → Bool) (b : ℕ) (s : List ℕ) (k : ℕ) → Nowhere (Passes p (b ∷ s)) 0 (suc k) → p b ≡ false
Nowhere-head p b s k none = false_from_ne_true (p b) (none 0 (omega arith) (omega arith))
