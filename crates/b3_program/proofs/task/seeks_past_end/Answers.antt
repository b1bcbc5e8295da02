use Rattle.std.proofs.Common.{rules}
use Rattle.b3_program.proofs.task.seeks_past_end.Goals as goal

pub returns : goal.returns
returns c = search rules
