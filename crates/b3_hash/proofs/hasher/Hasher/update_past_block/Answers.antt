use Rattle.std.proofs.Common.{rules}
use Rattle.b3_hash.proofs.hasher.Hasher.update_past_block.Goals as goal

pub returns-then-input-len-clause-too_long : goal.returns-then-input-len-clause-too_long
returns-then-input-len-clause-too_long c = search rules
