use Rattle.std.proofs.Common.{◌≡◌}
use Rattle.b3_hash.proofs.Roots.{root_of}
use Rattle.b3_hash.proofs.subtree_stack.SubtreeStack.root.Given as goal

abbrev pub invariant-loop-value : goal.invariant-loop-value
invariant-loop-value l =
    root_of l.mode l.value-iterator.iter.rest.now l.node ≡ root_of l.mode l.self.values.items l.fn.last
