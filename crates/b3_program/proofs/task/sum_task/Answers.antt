use Rattle.std.proofs.Common.{rules}
use Rattle.b3_program.proofs.task.sum_task.Goals as goal

pub returns : goal.returns
returns c = search rules
