use Rattle.std.proofs.Common.{◌≡◌, ◌+◌, ◌≤◌, drop, length}
use Rattle.b3_board.specs.Entries.{open_spans}
use Rattle.b3_board.proofs.entries.count_open.Given as goal

abbrev pub invariant-loop-entry : goal.invariant-loop-entry
invariant-loop-entry l = record {
  counted : l.count + length (open_spans (drop l.entry-index l.entries)) ≡ length (open_spans l.entries);
  few : l.count ≤ l.entry-index;
}
