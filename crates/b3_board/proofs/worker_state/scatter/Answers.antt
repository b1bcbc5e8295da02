use Rattle.std.proofs.Common.{sum_by, ◌+◌, length, arith, ap, ◌∙◌}
use Rattle.std.proofs.lemmas.List.{length_push}
use Rattle.std.proofs.lemmas.List.Elements.{All-push, All-same}
use Rattle.std.proofs.lemmas.List.Sums.{sum_by_push}
use Rattle.b3_board.specs.Shares.{ShareState}
use Rattle.b3_board.specs.WorkerStates.{IsNewState, seat_parts, share_parts}
use Rattle.b3_claims.specs.declared.claim_rule.View.{View}
use Rattle.b3_board.specs.declared.worker_state.WorkerState.{WorkerState}
use Rattle.b3_board.proofs.worker_state.scatter.Goals as goal

pub loop-preserved : goal.loop-preserved
loop-preserved g c =
    let kept = c.loop.invariant in
    let claims = c.args.claims.now in
    let items = c.in_ok-push.ensures.items in
    let state : WorkerState g.row.L.Denot = record {
      seat = c.split.result;
      share = c.split-in-loop.result;
      buffer = c.cut-buffer.result.0;
    } in
    let seats = ap (sum_by seat_parts) items ∙ sum_by_push seat_parts c.loop.states.items state in
    let shares = ap (sum_by share_parts) items ∙ sum_by_push share_parts c.loop.states.items state in
    let kept_seats = kept.seat_parts in
    let kept_shares = kept.share_parts in
    let share_given = ap (λ (h : ShareState). h.parts) c.split-in-loop.ensures.given in
    let share_left = c.split-in-loop.ensures.left in
    let seat_given = ap (λ (v : View). v.parts) c.split.ensures.given in
    let seat_left = ap (λ (v : View). v.parts) c.split.ensures.kept in
    record {
      own = c.split.ensures.own.0;
      claimed = ap (λ (v : View). v.claimed) c.split.ensures.kept ∙ kept.claimed;
      chunks = c.split-in-loop.ensures.chunks ∙ kept.chunks;
      len = ap length items ∙ length_push c.loop.states.items state ∙ ap (λ n. n + 1) kept.len;
      each = All-same (IsNewState claims) _ _ items
          (All-push (IsNewState claims) c.loop.states.items state kept.each
          (record {
            own = c.split.ensures.own.1;
            claimed = ap (λ (v : View). v.claimed) c.split.ensures.given;
            chunks = ap (λ (h : ShareState). h.chunks) c.split-in-loop.ensures.given;
          }));
      seat_left = omega (arith, seat_left, kept.seat_left, c.loop-test.true, c.requires.parts.0);
      share_left = omega (arith, share_left, kept.share_left);
      seat_parts = omega (
        arith,
        seats,
        kept_seats,
        seat_given,
        seat_left,
        c.loop-test.true,
        kept.seat_left,
        c.requires.parts.0,
      );
      share_parts = omega (arith, shares, kept_shares, share_given, share_left);
    }
