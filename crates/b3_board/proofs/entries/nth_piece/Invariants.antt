use Rattle.std.proofs.Common.{◌≡◌, drop, map}
use Rattle.std.specs.List.{filter_map, slice_get}
use Rattle.b3_board.specs.Entries.{pieces}
use Rattle.b3_board.proofs.LawfulStates.{kept_span}
use Rattle.b3_board.proofs.entries.nth_piece.Given as goal

abbrev pub invariant-loop-entry : goal.invariant-loop-entry
invariant-loop-entry l =
    slice_get (map (λ p. p.span) (pieces l.entries)) l.i
    ≡ slice_get (filter_map kept_span (drop l.entry-index l.entries)) l.left
