use Rattle.std.proofs.Common.{◌-◌, ℕ, ◌<◌, ◌≤◌, length}
use Rattle.b3_board.specs.Entries.{at}
use Rattle.b3_board.proofs.entries.find.Given as goal

abbrev pub invariant-loop-low : goal.invariant-loop-low
invariant-loop-low l = record {
  ordered : l.low ≤ l.high;
  inside : l.high ≤ length l.entries;
  below : (i : ℕ) → i < l.low → (at l.entries i).span.first < l.first;
  above : (i : ℕ) → l.high ≤ i → i < length l.entries → l.first ≤ (at l.entries i).span.first;
}

abbrev pub decreases-loop-low : goal.decreases-loop-low
decreases-loop-low l = l.high - l.low
