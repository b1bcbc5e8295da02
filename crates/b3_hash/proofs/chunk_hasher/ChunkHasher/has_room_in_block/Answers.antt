use Rattle.std.proofs.Common.{rules}
use Rattle.b3_hash.proofs.chunk_hasher.ChunkHasher.has_room_in_block.Goals as goal

pub returns-then-self-lt-LAST_CHUNK-clause-block : goal.returns-then-self-lt-LAST_CHUNK-clause-block
returns-then-self-lt-LAST_CHUNK-clause-block c = search rules

pub returns-then-self-lt-LAST_CHUNK-clause-chunk : goal.returns-then-self-lt-LAST_CHUNK-clause-chunk
returns-then-self-lt-LAST_CHUNK-clause-chunk c = search rules
