-- The root of a tree, as contracts see it (BLAKE3 (2020), 2.1).
use Rattle.std.specs.Prelude.{Bool}
use Rattle.b3_core.specs.declared.nodes.Node.{Node}

-- the node, and whether a board kept it
pub record RootNode : Type 0 where
  pub node : Node
  pub kept : Bool
