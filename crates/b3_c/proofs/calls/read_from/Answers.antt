use Rattle.std.proofs.Common.{rules}
use Rattle.b3_c.proofs.calls.read_from.Goals as goal

pub returns : goal.returns
returns c = search rules
