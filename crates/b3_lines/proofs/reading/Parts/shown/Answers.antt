use Rattle.std.proofs.Common.{rules}
use Rattle.b3_lines.proofs.reading.Parts.shown.Goals as goal

pub returns : goal.returns
returns c = search rules
