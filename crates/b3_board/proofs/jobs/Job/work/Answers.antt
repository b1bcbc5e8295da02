use Rattle.std.proofs.Common.{rules}
use Rattle.b3_board.proofs.jobs.Job.work.Goals as goal

pub invariant_of-result : goal.invariant_of-result
invariant_of-result c = search rules
