use Rattle.std.proofs.Common.{◌≡◌, ◌++◌, length}
use Rattle.b3_lines.specs.Names.{escaped}
use Rattle.b3_lines.proofs.names.push_escaped.Given as goal

-- what is written and the rest escaped make up the name escaped
abbrev pub invariant-loop-at : goal.invariant-loop-at
invariant-loop-at l = l.line.items ++ escaped l.rest ≡ l.fn.line.items ++ escaped l.name

abbrev pub decreases-loop-at : goal.decreases-loop-at
decreases-loop-at l = length l.rest
