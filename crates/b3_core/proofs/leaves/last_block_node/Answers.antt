use Rattle.std.proofs.Common.{bit_or, ap}
use Rattle.b3_core.specs.Chunks.{last_block_node}
use Rattle.b3_core.specs.declared.nodes.Node.{Node}
use Rattle.b3_core.proofs.leaves.last_block_node.Goals as goal

pub returns : goal.returns
unfolding last_block_node
returns c = ap (λ (node : Node). record node { d = bit_or node.d 2 }) c.block_node-node.ensures
