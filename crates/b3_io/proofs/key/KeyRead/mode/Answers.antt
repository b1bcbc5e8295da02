use Rattle.std.proofs.Common.{rules}
use Rattle.b3_io.proofs.key.KeyRead.mode.Goals as goal

pub returns-clause-ok : goal.returns-clause-ok
returns-clause-ok c = search rules
