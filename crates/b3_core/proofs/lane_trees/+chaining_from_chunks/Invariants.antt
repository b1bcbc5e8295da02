use Rattle.std.proofs.Common.{length}
use Rattle.b3_core.proofs.lane_trees.+chaining_from_chunks.Given as goal

abbrev pub decreases-chaining_from_chunks : goal.decreases-chaining_from_chunks
decreases-chaining_from_chunks l = length l.chainings.now
