use Rattle.b3_claims.specs.Seats.{IsSeatOf}
use Rattle.b3_board.specs.WorkerRuns.{HasWorked}
use Rattle.b3_board.proofs.workers.worker.Given as goal

abbrev pub invariant-loop-i : goal.invariant-loop-i
invariant-loop-i g l = record {
  own : IsSeatOf l.claims l.seat;
  worked : HasWorked l.plan.spans l.i l.initial.seat l.initial.share l.seat l.share;
}
