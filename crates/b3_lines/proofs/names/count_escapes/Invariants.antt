use Rattle.std.proofs.Common.{◌≡◌, ◌+◌, ◌≤◌, length}
use Rattle.b3_lines.specs.Names.{has_bad_escape, unescaped}
use Rattle.b3_lines.proofs.names.count_escapes.Given as goal

-- what is counted and what the rest has make up the whole text
abbrev pub invariant-loop-at : goal.invariant-loop-at
invariant-loop-at l = record {
  same : has_bad_escape l.text ≡ has_bad_escape l.rest;
  fits : l.count + length l.rest ≤ length l.text;
  shorter : length (unescaped l.text) + l.count + length l.rest ≡ length l.text + length (unescaped l.rest);
}

abbrev pub decreases-loop-at : goal.decreases-loop-at
decreases-loop-at l = length l.rest
