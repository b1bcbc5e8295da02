use Rattle.std.proofs.Common.{◌≡◌, ◌+◌, [], ◌∷◌, length, sym, ap, ◌∙◌, arith, length-append}
use Rattle.std.specs.List.{sum, sum_by}
use Rattle.std.proofs.lemmas.List.{nil_from_length}
use Rattle.std.proofs.lemmas.List.Elements.{All-same, All-head, All-tail}
use Rattle.std.proofs.lemmas.List.Sums.{sum_by-cons, sum_by_push}
use Rattle.b3_claims.specs.Claiming.{is_set}
use Rattle.b3_board.specs.Shares.{ShareState}
use Rattle.b3_board.specs.WorkerStates.{HasEnded, seat_parts, share_parts}
use Rattle.b3_claims.specs.declared.claim_rule.View.{View}
use Rattle.b3_claims.proofs.ClaimedIndexes.{is_set-united_right}
use Rattle.b3_board.proofs.WorkerStates.{claimed_chunks-joined, claimed_chunks-le}
use Rattle.b3_board.proofs.worker_state.gather.Goals as goal

pub join-requires-in-loop-state : goal.join-requires-in-loop-state
join-requires-in-loop-state g c =
    let spans = c.args.spans.now in
    let claims = c.args.claims.now in
    let state = c.in-Some.state in
    let left = All-same (HasEnded claims spans) _ _ (sym c.in-Some.ensures.steps.0) c.loop-state.invariant.rest in
    let ended : HasEnded claims spans state = All-head (HasEnded claims spans) _ _ left in
    let seat = c.loop-state.seat in
    let joined = claimed_chunks-joined spans c.join.new.seat.view seat.view state.seat.view c.join.ensures.view in
    let few = c.join.ensures.few in
    let count = c.requires.count in
    let small = c.requires.small in
    let most = claimed_chunks-le spans c.join.new.seat.view.claimed small.1 (omega arith) in
    let own = c.loop-state.invariant.claimed in
    let other = ended.chunks in
    omega arith

pub loop-state-preserved : goal.loop-state-preserved
loop-state-preserved g c =
    let spans = c.args.spans.now in
    let claims = c.args.claims.now in
    let state = c.in-Some.state in
    let seat = c.loop-state.seat in
    let kept = c.loop-state.invariant in
    let step = c.in-Some.ensures.steps.0 in
    let rest = c.next.new.self.rest.items in
    let left = All-same (HasEnded claims spans) _ _ (sym step) kept.rest in
    let ended : HasEnded claims spans state = All-head (HasEnded claims spans) _ _ left in
    let view = c.join.ensures.view in
    let longer : length c.push.new.self.items ≡ length c.loop-state.shares.items + 1 =
    ap length c.push.ensures.items ∙ length-append c.loop-state.shares.items (c.chunks.result ∷ []) in
    let shorter : length c.loop-state.state-iterator.rest.items ≡ length rest + 1 = ap length step ∙ omega arith in
    let seats : sum_by seat_parts c.loop-state.state-iterator.rest.items ≡ state.seat.view.parts + sum_by seat_parts rest =
    ap (sum_by seat_parts) step ∙ sum_by-cons seat_parts state rest in
    let shares : sum_by share_parts c.loop-state.state-iterator.rest.items ≡ state.share.parts + sum_by share_parts rest =
    ap (sum_by share_parts) step ∙ sum_by-cons share_parts state rest in
    let parts : c.join.new.seat.view.parts ≡ seat.view.parts + state.seat.view.parts = ap (λ (v : View). v.parts) view in
    let pushed : sum c.push.new.self.items ≡ sum c.loop-state.shares.items + c.chunks.result =
    ap sum c.push.ensures.items ∙ sum_by_push (λ x. x) c.loop-state.shares.items c.chunks.result in
    let joined = claimed_chunks-joined spans c.join.new.seat.view seat.view state.seat.view view in
    let kept_len = kept.len in
    let kept_seats = kept.seat_parts in
    let kept_shares = kept.share_parts in
    let kept_chunks = kept.chunks in
    let kept_claimed = kept.claimed in
    let told = c.chunks.ensures in
    let share_parts_now : c.join-in-loop-state.new.self.parts ≡ c.loop-state.share.parts + state.share.parts =
    ap (λ (h : ShareState). h.parts) c.join-in-loop-state.ensures in
    let chunks_now : c.join-in-loop-state.new.self.chunks ≡ c.loop-state.share.chunks + state.share.chunks =
    ap (λ (h : ShareState). h.chunks) c.join-in-loop-state.ensures in
    let other = ended.chunks in
    record {
      can_next = tt;
      is_finite = tt;
      own = c.join.ensures.own;
      rest = All-tail (HasEnded claims spans) _ _ left;
      len = omega arith;
      seen = λ some i lt. ap (λ (v : View). is_set v.seen i) view
          ∙ is_set-united_right seat.view.seen state.seat.view.seen i (ended.seen i lt);
      seat_parts = omega arith;
      share_parts = omega arith;
      chunks = omega arith;
      claimed = omega arith;
    }

pub returns-clause-seat_parts : goal.returns-clause-seat_parts
returns-clause-seat_parts g c =
    let none = nil_from_length _ (sym c.loop-state.state-iterator.rest.ok.0 ∙ c.in-None.ensures.steps.0) in
    omega (arith, ap (sum_by seat_parts) none, c.loop-state.invariant.seat_parts)

pub returns-clause-share_parts : goal.returns-clause-share_parts
returns-clause-share_parts g c =
    let none = nil_from_length _ (sym c.loop-state.state-iterator.rest.ok.0 ∙ c.in-None.ensures.steps.0) in
    omega (arith, ap (sum_by share_parts) none, c.loop-state.invariant.share_parts)

pub returns-clause-shares : goal.returns-clause-shares
returns-clause-shares g c =
    let none = sym c.loop-state.state-iterator.rest.ok.0 ∙ c.in-None.ensures.steps.0 in
    omega (arith, none, c.loop-state.invariant.len)

pub returns-clause-seen : goal.returns-clause-seen
returns-clause-seen g c =
    let none = sym c.loop-state.state-iterator.rest.ok.0 ∙ c.in-None.ensures.steps.0 in
    c.loop-state.invariant.seen (omega (arith, none, c.loop-state.invariant.len, c.requires.some.0))

pub returns-clause-chunks : goal.returns-clause-chunks
returns-clause-chunks g c = c.loop-state.invariant.chunks

pub returns-clause-own : goal.returns-clause-own
returns-clause-own g c = c.loop-state.invariant.own

pub join-requires : goal.join-requires
join-requires g c =
    let ended = HasEnded c.args.claims.now c.args.spans.now in
    let left = All-same ended _ _ (sym c.in-Some.ensures.steps.0) c.loop-state.invariant.rest in
    record { own = (c.loop-state.invariant.own, (All-head ended c.in-Some.state _ left).own) }
