use Rattle.std.proofs.Common.{arith}
use Rattle.std.proofs.lemmas.Grind.{elements}
use Rattle.b3_io.proofs.message.Message.of_name.Goals as goal

pub returns-in_default : goal.returns-in_default
returns-in_default c = grind (arith, elements)
