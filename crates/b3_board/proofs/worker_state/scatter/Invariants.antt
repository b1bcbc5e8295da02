use Rattle.std.proofs.Common.{◌≡◌, ◌+◌, All, length, sum_by}
use Rattle.b3_claims.specs.Seats.{IsSeatOf}
use Rattle.b3_board.specs.WorkerStates.{IsNewState, seat_parts, share_parts}
use Rattle.b3_board.proofs.worker_state.scatter.Given as goal

abbrev pub invariant-loop : goal.invariant-loop
invariant-loop g l = record {
  own : IsSeatOf l.claims l.seat;
  claimed : l.seat.view.claimed ≡ l.initial.seat.view.claimed;
  chunks : l.share.chunks ≡ l.initial.share.chunks;
  len : length l.states.items ≡ l.counter;
  each : All (IsNewState l.claims) l.states.items;
  seat_left : l.seat.view.parts + l.counter ≡ l.initial.seat.view.parts;
  share_left : l.share.parts + l.counter ≡ l.initial.share.parts;
  seat_parts : l.seat.view.parts + sum_by seat_parts l.states.items ≡ l.initial.seat.view.parts;
  share_parts : l.share.parts + sum_by share_parts l.states.items ≡ l.initial.share.parts;
}
