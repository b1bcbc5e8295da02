use Rattle.std.proofs.Common.{arith, rules}
use Rattle.b3_program.proofs.say.fail.Goals as goal

pub returns-clause-status : goal.returns-clause-status
returns-clause-status g c = omega arith

pub returns-clause-said : goal.returns-clause-said
returns-clause-said g c = search rules
