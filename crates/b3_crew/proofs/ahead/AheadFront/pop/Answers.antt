use Rattle.std.proofs.Common.{rules}
use Rattle.b3_crew.proofs.ahead.AheadFront.pop.Goals as goal

pub returns-in_err-entry-clause-none : goal.returns-in_err-entry-clause-none
returns-in_err-entry-clause-none g c = search rules

pub returns-in_err-entry-clause-same : goal.returns-in_err-entry-clause-same
returns-in_err-entry-clause-same g c = search rules

pub returns-clause-some : goal.returns-clause-some
returns-clause-some g c = search rules
