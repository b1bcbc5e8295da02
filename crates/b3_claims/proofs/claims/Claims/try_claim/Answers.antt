use Rattle.std.proofs.Common.{◌≡◌, eq-eqb, ne_eqb, true, false, length, refl, sym, subst, ap, ◌∙◌, arith, length-set, rules}
use Rattle.atomic_table.specs.Table.{Me}
use Rattle.b3_claims.specs.declared.claim_rule.View.{View}
use Rattle.b3_claims.specs.Claiming.{tried}
use Rattle.b3_claims.specs.Seats.{ClaimsState}
use Rattle.b3_claims.specs.ClaimRule.{KeepsSeat}
use Rattle.b3_claims.proofs.ClaimSteps.{Allows-Tried}
use Rattle.b3_claims.proofs.SeatViews.{IsSeatOf-kept, IsSeatOf-same, KeepsSeat-lost}
use Rattle.b3_claims.proofs.claims.Claims.try_claim.Goals as goal

pub swap-found-requires : goal.swap-found-requires
swap-found-requires c =
    let own = IsSeatOf-same c.self.view_is c.seat.view_is c.requires.own in
    let count = ap (λ (u : ClaimsState). u.count) c.self.view_is in
    let keeps = c.seat.invariant in (
      own.0,
      omega (arith, c.self.inside.sized, c.requires.index, count),
      Allows-Tried _ _ _ _ _ (omega (arith, c.requires.index, count)) (omega (arith, keeps.parts_are, keeps.some)),
    )

-- where the index was won, the list has room
pub push-requires : goal.push-requires
push-requires c =
    let own = IsSeatOf-same c.self.view_is c.seat.view_is c.requires.own in
    let room = (c.swap-found.ensures.2 c.args.i refl).1 (eq-eqb _ 0 c.if-won.true) in
    (omega arith, omega (arith, room, own.1, c.self.inside.few, ap length c.seat.invariant.list_is))

pub invariant_of-seat-else-won : goal.invariant_of-seat-else-won
invariant_of-seat-else-won c =
    let s = c.seat.inside in
    let lost = ne_eqb c.swap-found.result 0 c.if-won.false in
    let now : c.swap-found.new.seat.me ≡ (tried s.token.me.0 c.args.i false, s.token.me.1) =
    (c.swap-found.ensures.2 c.args.i refl).0 ∙ (λ k. (tried s.token.me.0 c.args.i (lost k), s.token.me.1)) in
    subst (λ (me : Me (Unit {0}) View). KeepsSeat me s.parts s.claimed.items) (sym now)
    (KeepsSeat-lost s.token.me c.args.i c.seat.invariant)

pub returns-else-won-clause-own : goal.returns-else-won-clause-own
returns-else-won-clause-own c =
    let now = (c.swap-found.ensures.2 c.args.i refl).0 in
    let same_length = length-set c.seat.inside.token.me.0.seen c.args.i true in
    let row = ap (λ (me : Me (Unit {0}) View). length me.0.seen) now ∙ same_length in
    IsSeatOf-kept c.self.view_is c.seat.view_is c.requires.own c.swap-found.ensures.0 row

pub returns-then-won-clause-view : goal.returns-then-won-clause-view
returns-then-won-clause-view c = search rules

pub invariant_of-seat : goal.invariant_of-seat
invariant_of-seat c = search rules

pub returns-else-won-clause-view : goal.returns-else-won-clause-view
returns-else-won-clause-view c = search rules
