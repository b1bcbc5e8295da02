-- What a call from C did to the hasher that lies at its pointer.
use Rattle.std.specs.Prelude.{◌≡◌, ℕ, ◌+◌, ◌^◌, ◌<◌, ◌≤◌, List, [], ◌++◌, length}
use Rattle.b3_core.specs.declared.modes.Mode.{Mode}
use Rattle.b3_core.specs.Output.{blake3}
use Rattle.b3_hash.specs.Hashers.{HasherState, StandsFor, length_of, mode_of}

-- a hasher in this mode, of which no bytes have come
pub record IsNew (of : Mode) (state : HasherState) : Type 0 where
  pub mode : mode_of state ≡ of
  pub stands_for : StandsFor state []
  pub len : length_of state ≡ 0

-- these bytes were taken in, or, where the input would then have 2^64 bytes or more, none
pub record IsAppended (before : HasherState) (input : List ℕ) (after : HasherState) : Type 0 where
  pub mode : mode_of after ≡ mode_of before
  pub stands_for : length_of before + length input < 2 ^ 64
      → (bytes : List ℕ) → StandsFor before bytes → StandsFor after (bytes ++ input)
  pub len : length_of before + length input < 2 ^ 64 → length_of after ≡ length_of before + length input
  pub too_long : 2 ^ 64 ≤ length_of before + length input → after ≡ before

-- these are the output's bytes from this place on, or, where they would end past place 2^64 - 1, what was
-- there before
pub record IsOutput (state : HasherState) (seek : ℕ) (old new : List ℕ) : Type 0 where
  pub bytes : seek + length old < 2 ^ 64
      → (input : List ℕ) → StandsFor state input → new ≡ blake3 (mode_of state) input seek (length old)
  pub past_end : 2 ^ 64 ≤ seek + length old → new ≡ old
