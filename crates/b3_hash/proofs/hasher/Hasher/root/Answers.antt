use Rattle.std.proofs.Common.{rules}
use Rattle.b3_hash.proofs.hasher.Hasher.root.Goals as goal

pub returns-in-Some : goal.returns-in-Some
returns-in-Some c = search rules
