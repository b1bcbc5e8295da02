use Rattle.std.proofs.Common.{rules}
use Rattle.b3_lines.proofs.reading.escapes_of.Goals as goal

pub returns-else-marked-clause-lawful : goal.returns-else-marked-clause-lawful
returns-else-marked-clause-lawful c = search rules
