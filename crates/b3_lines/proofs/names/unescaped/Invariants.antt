use Rattle.std.proofs.Common.{◌≡◌, ◌++◌, false, length}
use denote.Text.{Utf8}
use denote.Shadow.{shadow}
use Rattle.std.specs.String.{string_bytes}
use Rattle.b3_lines.specs.Names.{has_bad_escape, unescaped}
use Rattle.b3_lines.proofs.names.unescaped.Given as goal

-- what is taken back and what the rest is taken back to make up the name
abbrev pub invariant-loop-at : goal.invariant-loop-at
invariant-loop-at l =
    shadow (Utf8 l.rest) × (has_bad_escape l.rest ≡ false)
    × (string_bytes l.name ++ unescaped l.rest ≡ unescaped l.text)

abbrev pub decreases-loop-at : goal.decreases-loop-at
decreases-loop-at l = length l.rest
