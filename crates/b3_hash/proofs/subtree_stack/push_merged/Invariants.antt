use Rattle.std.proofs.Common.{◌≡◌, ℕ, ◌-◌, ◌*◌, ◌/◌, ◌^◌, ◌≤◌, ◌<◌, List, count_ones, length}
use Rattle.b3_hash.specs.Stacks.{stack_of, subtree_chaining}
use Rattle.b3_hash.proofs.Merging.{IsMerged}
use Rattle.b3_hash.proofs.subtree_stack.push_merged.Given as goal

abbrev pub invariant-merges : goal.invariant-merges
invariant-merges l = record {
  some : 0 < l.total / 2 ^ l.counter;
  len : length l.values.items ≡ count_ones (l.total / 2 ^ l.counter - 1);
  ones : count_ones (l.total / 2 ^ l.counter) ≡ count_ones l.total;
  merged : (digits base : ℕ) (input : List ℕ) → l.total < 2 ^ digits → 1024 * 2 ^ base * l.total ≤ length input
      → l.fn.last ≡ subtree_chaining l.mode base input (l.total - 1)
      → l.initial.values.items ≡ stack_of digits base l.mode input (l.total - 1)
      → IsMerged l.mode input digits base l.total l.counter l.values.items l.value;
}
