use Rattle.std.proofs.Common.{rules}
use Rattle.b3_core.proofs.lane_chunks.full_chunk_flags.Goals as goal

pub returns-then-k : goal.returns-then-k
returns-then-k c = search rules

pub returns-else-k : goal.returns-else-k
returns-else-k c = search rules
