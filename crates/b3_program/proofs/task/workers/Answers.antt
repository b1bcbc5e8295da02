use Rattle.std.proofs.Common.{rules}
use Rattle.b3_program.proofs.task.workers.Goals as goal

pub returns-in-Some : goal.returns-in-Some
returns-in-Some c = search rules
