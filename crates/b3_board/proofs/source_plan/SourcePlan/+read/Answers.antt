use Rattle.std.proofs.Common.{rules}
use Rattle.b3_board.proofs.source_plan.SourcePlan.+read.Goals as goal

pub returns-clause-span : goal.returns-clause-span
returns-clause-span g t c = search rules

pub joined-requires-clause-next : goal.joined-requires-clause-next
joined-requires-clause-next g t c = search rules

pub joined-requires-clause-halves : goal.joined-requires-clause-halves
joined-requires-clause-halves g t c = search rules
