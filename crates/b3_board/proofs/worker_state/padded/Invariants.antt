use Rattle.std.proofs.Common.{◌≡◌, length, sum}
use Rattle.b3_board.proofs.worker_state.padded.Given as goal

abbrev pub invariant-loop : goal.invariant-loop
invariant-loop l = record {
  len : length l.shares.items ≡ l.counter;
  same : sum l.shares.items ≡ sum l.initial.shares.items;
}
