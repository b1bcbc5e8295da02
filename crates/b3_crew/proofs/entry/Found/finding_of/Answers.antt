use Rattle.std.proofs.Common.{rules}
use Rattle.b3_crew.proofs.entry.Found.finding_of.Goals as goal

pub returns : goal.returns
returns g c = search rules
