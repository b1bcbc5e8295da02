use Rattle.std.proofs.Common.{arith}
use Rattle.b3_board.proofs.source_plan.halves.Goals as goal

pub returns-clause-all : goal.returns-clause-all
returns-clause-all c = omega arith

pub returns-clause-back : goal.returns-clause-back
returns-clause-back c = omega arith
