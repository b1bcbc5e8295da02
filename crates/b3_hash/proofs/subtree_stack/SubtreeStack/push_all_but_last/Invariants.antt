use Rattle.std.proofs.Common.{◌≡◌, ℕ, ◌+◌, ◌-◌, ◌*◌, ◌%◌, ◌^◌, max, ◌<◌, ◌≤◌, ◌++◌, List, length, drop}
use Rattle.b3_hash.specs.Stacks.{stack_of}
use Rattle.b3_hash.proofs.subtree_stack.SubtreeStack.push_all_but_last.Given as goal

abbrev pub invariant-loop-rest : goal.invariant-loop-rest
invariant-loop-rest l = record {
  forward : l.initial.self.chunks ≤ l.self.chunks;
  len : 1024 * l.self.chunks + length l.rest ≡ 1024 * l.initial.self.chunks + length l.bytes;
  rest : l.rest ≡ drop (1024 * (l.self.chunks - l.initial.self.chunks)) l.bytes;
  some : 0 < length l.bytes → 0 < length l.rest;
  within : 1024 * 2 ^ l.level ≤ max (length l.rest) 1024;
  low : l.level < 54;
  aligned : l.self.chunks % 2 ^ l.level ≡ 0;
  values : (before : List ℕ) → length before ≡ 1024 * l.initial.self.chunks
      → l.initial.self.values.items ≡ stack_of 54 0 l.mode before l.initial.self.chunks
      → l.self.values.items ≡ stack_of 54 0 l.mode (before ++ l.bytes) l.self.chunks;
}

abbrev pub decreases-loop-rest : goal.decreases-loop-rest
decreases-loop-rest l = length l.rest
