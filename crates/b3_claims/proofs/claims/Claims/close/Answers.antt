use Rattle.std.proofs.Common.{arith, rules}
use Rattle.b3_claims.proofs.ClaimSteps.{Allows-Told}
use Rattle.b3_claims.proofs.SeatViews.{IsSeatOf-same}
use Rattle.b3_claims.proofs.claims.Claims.close.Goals as goal

pub load-requires : goal.load-requires
load-requires c =
    let own = IsSeatOf-same c.self.view_is c.seat.view_is c.requires.own in
    let keeps = c.seat.invariant in
    (own.0, omega (arith, c.self.inside.sized), Allows-Told _ _ _ _ (omega (arith, keeps.parts_are, keeps.some)))

pub returns-clause-list : goal.returns-clause-list
returns-clause-list c = cc

pub returns-clause-once : goal.returns-clause-once
returns-clause-once c = search rules
