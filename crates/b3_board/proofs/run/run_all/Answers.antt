use Rattle.std.proofs.Common.{arith, ◌≡◌, ℕ, ◌+◌, ◌<◌, ◌≤◌, List, length, sum_by, sym, subst, ap, ◌∙◌}
use Rattle.std.proofs.lemmas.List.{with_items_is}
use Rattle.std.specs.List.{All}
use Rattle.std.specs.Vec.{with_items}
use Rattle.b3_core.specs.declared.spans.Span.{Span}
use Rattle.b3_board.specs.WorkerStates.{HasEnded, seat_parts, share_parts}
use Rattle.b3_board.proofs.run.run_all.Goals as goal

-- fewer than there are parts
fewer : (n workers parts : ℕ) → n ≤ workers → workers ≤ 64 → parts ≡ 128 → n < parts
fewer n workers parts le few is = omega arith

pub scatter-requires-clause-parts : goal.scatter-requires-clause-parts
scatter-requires-clause-parts g c = (
  fewer _ _ _ c.thread_count-threads.ensures.few c.requires.few (ap (λ view. view.parts) c.in_ok-claims.ensures.seat),
  fewer _ _ _ c.thread_count-threads.ensures.few c.requires.few c.requires.new.0,
)

pub join_workers-requires-clause-new : goal.join_workers-requires-clause-new
join_workers-requires-clause-new g c = (
  c.scatter.ensures.claimed ∙ ap (λ view. view.claimed) c.in_ok-claims.ensures.seat,
  c.scatter.ensures.chunks ∙ c.requires.new.1,
)

pub join_workers-requires-clause-some : goal.join_workers-requires-clause-some
join_workers-requires-clause-some g c =
    let states = c.in_ok-states.states in
    let len = c.run_each.ensures.len ∙ ap length c.as_mut_slice.ensures.value ∙ sym states.ok.0 in
    let count = ap length (with_items_is states c.run_each.new.states len) ∙ len ∙ c.in_ok-states.ensures.len in
    subst (λ (n : ℕ). (1 ≤ n) × (n ≤ c.args.workers) × (c.args.workers ≤ 64)) (sym count)
    (c.thread_count-threads.ensures.some, c.thread_count-threads.ensures.few, c.requires.few)

pub join_workers-requires-clause-seat_parts : goal.join_workers-requires-clause-seat_parts
join_workers-requires-clause-seat_parts g c =
    let states = c.in_ok-states.states in
    let len = c.run_each.ensures.len ∙ ap length c.as_mut_slice.ensures.value ∙ sym states.ok.0 in
    let same = ap (sum_by seat_parts) (with_items_is states c.run_each.new.states len) ∙ c.run_each.ensures.seat_parts
    ∙ ap (sum_by seat_parts) c.as_mut_slice.ensures.value in
    ap (λ n. c.scatter.new.seat.view.parts + n) same ∙ c.in_ok-states.ensures.seat_parts
    ∙ ap (λ view. view.parts) c.in_ok-claims.ensures.seat

pub join_workers-requires-clause-share_parts : goal.join_workers-requires-clause-share_parts
join_workers-requires-clause-share_parts g c =
    let states = c.in_ok-states.states in
    let len = c.run_each.ensures.len ∙ ap length c.as_mut_slice.ensures.value ∙ sym states.ok.0 in
    let same = ap (sum_by share_parts) (with_items_is states c.run_each.new.states len) ∙ c.run_each.ensures.share_parts
    ∙ ap (sum_by share_parts) c.as_mut_slice.ensures.value in
    ap (λ n. c.scatter.new.share.parts + n) same ∙ c.in_ok-states.ensures.share_parts ∙ c.requires.new.0

pub join_workers-requires-clause-each : goal.join_workers-requires-clause-each
join_workers-requires-clause-each g c =
    let states = c.in_ok-states.states in
    let items : (with_items states c.run_each.new.states).items ≡ c.run_each.new.states =
    with_items_is states c.run_each.new.states
    (c.run_each.ensures.len ∙ ap length c.as_mut_slice.ensures.value ∙ sym states.ok.0) in
    let each = subst (λ (ss : List Span). All (HasEnded c.in_ok-claims.claims ss) c.run_each.new.states)
    (sym c.cutting-spans.ensures.spans) c.run_each.ensures.each in
    subst (All (HasEnded c.in_ok-claims.claims c.cutting-spans.result.now)) (sym items) each

pub returns-clause-claimed : goal.returns-clause-claimed
returns-clause-claimed g c = rw c.cutting-spans.ensures.spans at c.join_workers.ensures.claimed

pub join_workers-requires-clause-small : goal.join_workers-requires-clause-small
join_workers-requires-clause-small g c =
    rw c.cutting-spans.ensures.spans (c.cutting-spans.ensures.few, c.cutting-spans.ensures.small)

pub join_workers-requires-clause-count : goal.join_workers-requires-clause-count
join_workers-requires-clause-count g c = c.in_ok-claims.ensures.count

pub join_workers-requires-clause-own : goal.join_workers-requires-clause-own
join_workers-requires-clause-own g c = c.scatter.ensures.own

pub returns-clause-shares : goal.returns-clause-shares
returns-clause-shares g c = c.join_workers.ensures.shares

pub returns-clause-chunks : goal.returns-clause-chunks
returns-clause-chunks g c = c.join_workers.ensures.chunks

pub returns-clause-whole : goal.returns-clause-whole
returns-clause-whole g c = c.join_workers.ensures.whole

pub run_each-requires-clause-count : goal.run_each-requires-clause-count
run_each-requires-clause-count g c = λ κs lives. c.in_ok-claims.ensures.count ∙ ap length c.cutting-spans.ensures.spans
