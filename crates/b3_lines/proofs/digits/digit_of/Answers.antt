use Rattle.std.proofs.Common.{rules}
use Rattle.b3_lines.proofs.digits.digit_of.Goals as goal

pub returns-else-value-lt10 : goal.returns-else-value-lt10
returns-else-value-lt10 c = search rules
