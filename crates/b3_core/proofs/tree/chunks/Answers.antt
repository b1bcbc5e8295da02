use Rattle.std.proofs.Common.{arith}
use Rattle.b3_core.proofs.tree.chunks.Goals as goal

pub returns : goal.returns
returns c = omega arith
