use Rattle.std.proofs.Common.{rules}
use Rattle.b3_hash.proofs.open_chunk.OpenChunk.has_room.Goals as goal

pub returns-clause-block : goal.returns-clause-block
returns-clause-block c = search rules

pub returns-clause-chunk : goal.returns-clause-chunk
returns-clause-chunk c = search rules
