use Rattle.std.proofs.Common.{rules}
use Rattle.b3_lines.proofs.digits.digit_value.Goals as goal

pub returns-in_default-3 : goal.returns-in_default-3
returns-in_default-3 c = search rules
