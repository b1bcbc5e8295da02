use Rattle.std.proofs.Common.{◌≡◌, drop}
use Rattle.std.specs.List.{slice_get}
use Rattle.b3_board.specs.Entries.{open_spans}
use Rattle.b3_board.proofs.entries.nth_open.Given as goal

abbrev pub invariant-loop-entry : goal.invariant-loop-entry
invariant-loop-entry l =
    slice_get (open_spans l.entries) l.i ≡ slice_get (open_spans (drop l.entry-index l.entries)) l.left
