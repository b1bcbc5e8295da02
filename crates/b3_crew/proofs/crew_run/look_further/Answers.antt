use Rattle.std.proofs.Common.{rules}
use Rattle.b3_crew.proofs.crew_run.look_further.Goals as goal

pub returns-clause-left : goal.returns-clause-left
returns-clause-left g c = search rules

pub returns-clause-next : goal.returns-clause-next
returns-clause-next g c = search rules
