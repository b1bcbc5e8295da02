use Rattle.std.proofs.Common.{rules}
use Rattle.b3_io.proofs.message.Message.warning.Goals as goal

pub returns : goal.returns
returns c = search rules
