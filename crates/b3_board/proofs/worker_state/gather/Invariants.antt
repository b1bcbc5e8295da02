use Rattle.std.proofs.Common.{◌≡◌, ◌+◌, ◌≤◌, ◌<◌, All, length, sum, sum_by}
use Rattle.b3_claims.specs.Seats.{HasSeenAll, IsSeatOf}
use Rattle.b3_board.specs.WorkerRuns.{claimed_chunks}
use Rattle.b3_board.specs.WorkerStates.{HasEnded, seat_parts, share_parts}
use Rattle.b3_board.proofs.worker_state.gather.Given as goal

abbrev pub invariant-loop-state : goal.invariant-loop-state
invariant-loop-state g l = record {
  can_next : (goal.iterator-loop-state g).can_next l.state-iterator;
  is_finite : (goal.iterator-loop-state g).is_finite l.state-iterator;
  own : IsSeatOf l.claims l.seat;
  rest : All (HasEnded l.claims l.spans) l.state-iterator.rest.items;
  len : length l.shares.items + length l.state-iterator.rest.items ≡ length l.fn.states.items;
  seen : 0 < length l.shares.items → HasSeenAll (length l.spans) l.seat;
  seat_parts : l.seat.view.parts + sum_by seat_parts l.state-iterator.rest.items
      ≡ l.fn.seat.view.parts + sum_by seat_parts l.fn.states.items;
  share_parts : l.share.parts + sum_by share_parts l.state-iterator.rest.items
      ≡ l.fn.share.parts + sum_by share_parts l.fn.states.items;
  chunks : l.share.chunks ≡ sum l.shares.items;
  claimed : l.share.chunks ≤ claimed_chunks l.spans l.seat.view.claimed;
}
