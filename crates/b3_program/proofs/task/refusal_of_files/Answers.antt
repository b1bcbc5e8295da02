use Rattle.std.proofs.Common.{rules}
use Rattle.b3_program.proofs.task.refusal_of_files.Goals as goal

pub returns : goal.returns
returns c = search rules
