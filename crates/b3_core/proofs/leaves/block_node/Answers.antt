use Rattle.b3_core.specs.Chunks.{block_node}
use Rattle.std.proofs.Common.{length}
use Rattle.b3_core.proofs.leaves.block_node.Goals as goal

pub returns : goal.returns
unfolding block_node
returns c = λ i. record {
  h = c.args.h.now;
  m = c.padded_words.ensures i;
  t = c.args.number;
  b = length c.args.block.now;
  d = c.block_flags.ensures i;
}
