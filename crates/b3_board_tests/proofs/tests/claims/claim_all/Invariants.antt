use Rattle.std.proofs.Common.{◌≡◌}
use Rattle.b3_claims.specs.Seats.{IsSeatOf}
use Rattle.b3_board_tests.proofs.tests.claims.claim_all.Given as goal

abbrev pub invariant-loop-i : goal.invariant-loop-i
invariant-loop-i l = IsSeatOf l.claims l.seat × (l.seat.view.parts ≡ l.initial.seat.view.parts)
