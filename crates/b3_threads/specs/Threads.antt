-- What holds of the places of a list, some of which threads work on.
use Rattle.std.specs.Prelude.{◌≡◌, ℕ, ◌+◌, ◌<◌, ◌^◌, List, length, slice_index_or}

-- P holds of each element at its place, where xs stands at base, and these places fit in a `usize`
pub record AllFrom {X : Type 0} (P : ℕ → X → Type 0) (base : ℕ) (xs : List X) : Type 0 where
  pub room : base + length xs < 2 ^ 64
  pub each : (k : ℕ) (d : X) → k < length xs → P (base + k) (slice_index_or xs k d)

-- R holds of each element before and after
pub record ChangesFrom {X : Type 0} (R : ℕ → X → X → Type 0) (base : ℕ) (xs ys : List X) : Type 0 where
  pub len : length ys ≡ length xs
  pub each : (k : ℕ) (d : X) → k < length xs → R (base + k) (slice_index_or xs k d) (slice_index_or ys k d)
