use Rattle.std.proofs.Common.{◌≤◌, ◌+◌, ◌++◌, ℕ, List, length, subst, sym, ap, ◌∙◌, arith, length-append}
use Rattle.atomic_table.specs.Table.{Me}
use Rattle.b3_claims.specs.declared.claim_rule.View.{View}
use Rattle.b3_claims.specs.ClaimRule.{IsSound, KeepsSeat}
use Rattle.b3_claims.specs.Seats.{ClaimsState}
use Rattle.b3_claims.proofs.ClaimedIndexes.{length-united}
use Rattle.b3_claims.proofs.ClaimSteps.{Allows-Told, Joins-joined}
use Rattle.b3_claims.proofs.SeatViews.{IsSeatOf-kept, IsSeatOf-same, KeepsSeat-joined, use_OnOk}
use Rattle.b3_claims.proofs.claims.Claims.join.Goals as goal

pub join_seat-requires : goal.join_seat-requires
join_seat-requires c =
    let own = IsSeatOf-same c.self.view_is c.seat.view_is c.requires.own.0 in
    let theirs = IsSeatOf-same c.self.view_is c.other.view_is c.requires.own.1 in
    let k = c.seat.invariant in
    let l = c.other.invariant in (
      own.0,
      theirs.0,
      l.no_slot,
      omega (arith, c.self.inside.sized),
      Joins-joined _ _ _ _ _ (omega (arith, k.parts_are, k.some)) (omega (arith, l.parts_are, l.some)),
    )

pub load-requires : goal.load-requires
load-requires c =
    let own = IsSeatOf-same c.self.view_is c.seat.view_is c.requires.own.0 in
    let k = c.seat.invariant in
    let parts = ap (λ (me : Me (Unit {0}) View). me.0.parts) c.join_seat.ensures.2 in (
      c.join_seat.ensures.0 ∙ own.0,
      omega (arith, c.self.inside.sized),
      Allows-Told _ _ _ _ (omega (arith, parts, k.parts_are, k.some)),
    )

pub invariant_of-seat : goal.invariant_of-seat
invariant_of-seat c =
    let s = c.seat.inside in
    let o = c.other.inside in
    let own = IsSeatOf-same c.self.view_is c.seat.view_is c.requires.own.0 in
    let theirs = IsSeatOf-same c.self.view_is c.other.view_is c.requires.own.1 in
    let now = c.load.ensures.2.0 ∙ c.join_seat.ensures.2 in
    let v = s.token.me.0 in
    let w = o.token.me.0 in
    let sound = subst (λ (me : Me (Unit {0}) View). IsSound me.0) c.join_seat.ensures.2 c.load.ensures.2.1 in
    let room : length s.claimed.items + length c.as_slice.result.now ≤ 1024 = omega (
      arith,
      sound.room,
      length-append v.claimed w.claimed,
      length-united v.seen w.seen (own.1 ∙ sym theirs.1),
      own.1,
      c.self.inside.few,
      ap length c.seat.invariant.list_is,
      ap length (c.other.invariant.list_is ∙ sym c.as_slice.ensures.value),
    ) in
    let fits = c.try_extend_from_slice-fits.ensures in
    let list = use_OnOk _ _ (fits.variant.1 room) fits.ok ∙ (λ i. s.claimed.items ++ c.as_slice.ensures.value i) in
    let items = s.claimed.items ++ o.claimed.items in
    let keeps = KeepsSeat-joined s.token.me o.token.me c.seat.invariant c.other.invariant sound in
    subst (λ (list : List ℕ). KeepsSeat c.load.new.seat.me (s.parts + o.parts) list) (sym list)
    (subst (λ (me : Me (Unit {0}) View). KeepsSeat me (s.parts + o.parts) items) (sym now) keeps)

pub returns-clause-own : goal.returns-clause-own
returns-clause-own c =
    let own = IsSeatOf-same c.self.view_is c.seat.view_is c.requires.own.0 in
    let theirs = IsSeatOf-same c.self.view_is c.other.view_is c.requires.own.1 in
    let now = c.load.ensures.2.0 ∙ c.join_seat.ensures.2 in
    let v = c.seat.inside.token.me.0 in
    let w = c.other.inside.token.me.0 in
    let same_table = c.load.ensures.0 ∙ c.join_seat.ensures.0 in
    let same_length = length-united v.seen w.seen (own.1 ∙ sym theirs.1) in
    let row = ap (λ (me : Me (Unit {0}) View). length me.0.seen) now ∙ same_length in
    IsSeatOf-kept c.self.view_is c.seat.view_is c.requires.own.0 same_table row

pub returns-clause-few : goal.returns-clause-few
returns-clause-few c =
    let own = IsSeatOf-same c.self.view_is c.seat.view_is c.requires.own.0 in
    let theirs = IsSeatOf-same c.self.view_is c.other.view_is c.requires.own.1 in
    let told = c.load.ensures.2 in
    let v = c.seat.inside.token.me.0 in
    let w = c.other.inside.token.me.0 in
    omega (
      arith,
      told.1.room,
      ap (λ (me : Me (Unit {0}) View). length me.0.claimed) told.0,
      ap (λ (me : Me (Unit {0}) View). length me.0.seen) c.join_seat.ensures.2,
      length-united v.seen w.seen (own.1 ∙ sym theirs.1),
      own.1,
      ap (λ (u : ClaimsState). u.count) c.self.view_is,
    )
