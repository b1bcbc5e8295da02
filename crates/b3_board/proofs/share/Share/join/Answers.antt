use Rattle.std.proofs.Common.{arith}
use Rattle.b3_board.proofs.share.Share.join.Goals as goal

pub invariant_of-self-inside : goal.invariant_of-self-inside
invariant_of-self-inside g c = omega arith
