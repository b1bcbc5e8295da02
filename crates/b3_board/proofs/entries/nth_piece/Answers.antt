use Rattle.std.proofs.Common.{ap}
use Rattle.std.specs.List.{slice_get}
use Rattle.b3_board.proofs.LawfulStates.{kept_spans}
use Rattle.b3_board.proofs.entries.nth_piece.Goals as goal

pub loop-entry-init : goal.loop-entry-init
loop-entry-init c = ap (λ spans. slice_get spans c.args.i) (kept_spans c.args.entries.now)
