use Rattle.std.proofs.Common.{rules}
use Rattle.b3_program.proofs.task.refusal_of_output.Goals as goal

pub returns-then-seeks_past_end : goal.returns-then-seeks_past_end
returns-then-seeks_past_end c = search rules
