-- A region of a source: what is known of its bytes.
use Rattle.std.specs.Prelude.{ℕ, List, take, drop, Option}
use Rattle.std.specs.Option.{option_map}
use Rattle.b3_board.specs.Spans.{KnownInput}

-- what is known of the bytes at an offset, from what is told of all
abbrev pub region : Option (List ℕ) → ℕ → ℕ → KnownInput
region told offset len = record { told = option_map (λ all. take len (drop offset all)) told; len = len }
