use Rattle.std.proofs.Common.{rules}
use Rattle.b3_program.proofs.lists.refusal_over.Goals as goal

pub returns : goal.returns
returns c = search rules
