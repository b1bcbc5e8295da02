-- Digests: which bytes of which output of a content are wanted (BLAKE3 (2020), 2.6).
use Rattle.std.specs.Prelude.{ℕ, List}
use Rattle.b3_core.specs.Modes.{hash_mode}
use Rattle.b3_core.specs.Output.{blake3}
use Rattle.b3_core.specs.declared.modes.Mode.{Mode}
use Rattle.b3_io.specs.declared.output_range.OutputRange.{OutputRange}
use Rattle.b3_io.specs.declared.options.SumOptions.{SumOptions}
use Rattle.b3_io.specs.Scripts.{Answer, Given, Report, Script, given_map}
use Rattle.b3_io.specs.Scripts.Kind.{Hashed}
use Rattle.b3_io.specs.Scripts.Script.{Done, Say, Ask}

-- the range that is wanted with these options, in this mode
abbrev pub range_of : Mode → SumOptions → OutputRange
range_of mode options = record { mode = mode; seek = options.seek; length = options.length }

-- the range that check lines hold: the first 32 bytes, without a key
abbrev pub line_range : OutputRange
line_range = record { mode = hash_mode; seek = 0; length = 32 }

-- the digest of an answer, or why there is none
abbrev pub digest_of : OutputRange → Answer → Given (List ℕ)
digest_of range answer = given_map (λ content. blake3 range.mode content range.seek range.length) answer

-- a name is asked for, and the digest of its answer gives what is said
abbrev pub digest_script : OutputRange → List ℕ → (Given (List ℕ) → Report) → Script
digest_script range name says = Ask Hashed name (λ answer. Say (says (digest_of range answer)) Done)
