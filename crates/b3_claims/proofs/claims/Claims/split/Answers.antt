use Rattle.std.proofs.Common.{ap, arith}
use Rattle.b3_claims.specs.Seats.{SeatState}
use Rattle.b3_claims.proofs.ClaimSteps.{Splits-one_part}
use Rattle.b3_claims.proofs.SeatViews.{IsSeatOf-same}
use Rattle.b3_claims.proofs.claims.Claims.split.Goals as goal

pub split_seat-token-requires : goal.split_seat-token-requires
split_seat-token-requires c =
    let own = IsSeatOf-same c.self.view_is c.seat.view_is c.requires.own in
    let same = ap (λ (u : SeatState). u.view.parts) c.seat.view_is in
    (own.0, omega (arith, c.self.inside.sized), Splits-one_part _ _ _ (omega (arith, c.requires.parts, same)))
