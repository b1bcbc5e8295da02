use Rattle.std.proofs.Common.{rules}
use Rattle.b3_c.proofs.calls.plain_hasher.Goals as goal

pub returns : goal.returns
returns c = search rules
