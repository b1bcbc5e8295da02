use Rattle.std.proofs.Common.{arith}
use Rattle.std.proofs.lemmas.Grind.{common_steps}
use Rattle.b3_hash.proofs.hasher.Hasher.finish.Goals as goal

pub only_node-requires : goal.only_node-requires
only_node-requires c = omega arith

pub returns-in-Some-clause-output : goal.returns-in-Some-clause-output
returns-in-Some-clause-output c = grind (arith, common_steps)

pub returns-in-Some-clause-one_output : goal.returns-in-Some-clause-one_output
returns-in-Some-clause-one_output c = grind (arith, common_steps)
