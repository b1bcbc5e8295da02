use Rattle.std.proofs.lemmas.Grind.{common_steps}
use Rattle.std.proofs.Common.{arith, rules}
use Rattle.b3_io.proofs.in_order.fill.Goals as goal

pub returns-then-turns-eq0-clause-endless : goal.returns-then-turns-eq0-clause-endless
returns-then-turns-eq0-clause-endless g c = grind (arith, common_steps)

pub returns-then-turns-eq0-clause-few_turns : goal.returns-then-turns-eq0-clause-few_turns
returns-then-turns-eq0-clause-few_turns g c = search rules
