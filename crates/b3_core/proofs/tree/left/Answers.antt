use Rattle.std.proofs.Common.{rules}
use Rattle.b3_core.proofs.tree.left.Goals as goal

pub returns : goal.returns
returns c = search rules
