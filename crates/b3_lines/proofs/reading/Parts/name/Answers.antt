use Rattle.std.proofs.Common.{rules}
use Rattle.b3_lines.proofs.reading.Parts.name.Goals as goal

pub returns-then-self : goal.returns-then-self
returns-then-self c = search rules
