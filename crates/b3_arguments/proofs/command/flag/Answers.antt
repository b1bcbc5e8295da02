use Rattle.std.proofs.Common.{rules}
use Rattle.b3_arguments.proofs.command.flag.Goals as goal

pub returns : goal.returns
returns c = search rules
