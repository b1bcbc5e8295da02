use Rattle.std.proofs.Common.{rules}
use Rattle.b3_hash.proofs.hasher.Hasher.has_room_in_chunk.Goals as goal

pub returns-then-is_none-clause-none : goal.returns-then-is_none-clause-none
returns-then-is_none-clause-none c = search rules
