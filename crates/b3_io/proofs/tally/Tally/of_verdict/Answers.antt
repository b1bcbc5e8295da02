use Rattle.std.proofs.Common.{rules}
use Rattle.b3_io.proofs.tally.Tally.of_verdict.Goals as goal

pub returns-in-Missing : goal.returns-in-Missing
returns-in-Missing c = search rules
