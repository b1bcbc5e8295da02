use Rattle.std.proofs.Common.{rules}
use Rattle.b3_hash.proofs.hasher.Hasher.reset.Goals as goal

pub returns-clause-mode : goal.returns-clause-mode
returns-clause-mode c = search rules
