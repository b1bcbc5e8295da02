-- What each worker of a run holds: before it goes through the spans, and once it did.
use Rattle.std.specs.Prelude.{◌≡◌, ℕ, ◌≤◌, List, [], length}
use Rattle.b3_core.specs.declared.spans.Span.{Span}
use Rattle.b3_claims.specs.Seats.{HasSeenAll, ClaimsState, IsSeatOf}
use Rattle.b3_board.specs.WorkerRuns.{HasWorked, claimed_chunks}
use Rattle.b3_board.specs.declared.worker_state.WorkerState.{WorkerState}

-- a worker of these claims who has claimed and deposited nothing
pub record IsNewState {L : Type 0} (claims : ClaimsState) (state : WorkerState L) : Type 0 where
  pub own : IsSeatOf claims state.seat
  pub claimed : state.seat.view.claimed ≡ []
  pub chunks : state.share.chunks ≡ 0

-- what a worker held, and what it holds once it went through all spans
pub record HasRun {L : Type 0} (claims : ClaimsState) (spans : List Span) (old new : WorkerState L) : Type 0 where
  pub own : IsSeatOf claims new.seat
  pub worked : HasWorked spans (length spans) old.seat old.share new.seat new.share

-- a worker of these claims who has seen every index, and whose share has no more chunks than the spans that its
-- seat claimed
pub record HasEnded {L : Type 0} (claims : ClaimsState) (spans : List Span) (state : WorkerState L) : Type 0 where
  pub own : IsSeatOf claims state.seat
  pub seen : HasSeenAll (length spans) state.seat
  pub chunks : state.share.chunks ≤ claimed_chunks spans state.seat.view.claimed

-- the parts of a worker's seat, and of its share
abbrev pub seat_parts : {L : Type 0} → WorkerState L → ℕ
seat_parts state = state.seat.view.parts

abbrev pub share_parts : {L : Type 0} → WorkerState L → ℕ
share_parts state = state.share.parts
