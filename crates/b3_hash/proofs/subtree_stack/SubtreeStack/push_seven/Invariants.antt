use Rattle.std.proofs.Common.{◌≡◌, ◌+◌, ◌*◌, List, ℕ, drop}
use Rattle.b3_hash.specs.Stacks.{stack_of}
use Rattle.b3_hash.proofs.subtree_stack.SubtreeStack.push_seven.Given as goal

abbrev pub invariant-chunks : goal.invariant-chunks
invariant-chunks l = record {
  chunks : l.self.chunks ≡ l.fn.self.chunks + l.j;
  values : (input : List ℕ) → l.bytes ≡ drop (1024 * l.fn.self.chunks) input
      → l.fn.self.values.items ≡ stack_of 54 0 l.mode input l.fn.self.chunks
      → l.self.values.items ≡ stack_of 54 0 l.mode input l.self.chunks;
}
