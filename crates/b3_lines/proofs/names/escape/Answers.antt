use Rattle.std.proofs.Common.{rules}
use Rattle.b3_lines.proofs.names.escape.Goals as goal

pub returns-in_default : goal.returns-in_default
returns-in_default c = search rules

pub returns-in-13 : goal.returns-in-13
returns-in-13 c = search rules
