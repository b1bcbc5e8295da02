use Rattle.std.proofs.Common.{◌+◌, ◌<◌, true, false, length, refl, sym, subst, ap, ◌∙◌, arith, rules}
use Rattle.b3_claims.specs.Claiming.{tried}
use Rattle.b3_board.specs.Shares.{ShareState}
use Rattle.b3_board.specs.WorkerRuns.{HasWorked}
use Rattle.b3_board.proofs.Working.{HasWorked-tried}
use Rattle.b3_board.proofs.workers.worker.Goals.{then-try_claim, else-try_claim}
use Rattle.b3_board.proofs.workers.worker.Goals as goal

pub returns-clause-worked : goal.returns-clause-worked
returns-clause-worked g c = search rules

pub loop-i-preserved : goal.loop-i-preserved
loop-i-preserved g c =
    let spans = c.args.plan.now.spans in
    let i = c.loop-i.i in
    let old = c.args.seat in
    let held = c.args.share in
    let seat = c.loop-i.seat in
    let share = c.loop-i.share in
    let next = c.try_claim.new.seat in
    let worked = c.loop-i.invariant.worked in
    let view = c.try_claim.ensures.view in
    let inside : i < length seat.view.seen = omega arith in
    record {
      own = c.try_claim.ensures.own;
      worked = elim c.if-try_claim.branch [
        | then-try_claim w ↦
            subst (λ (s : ShareState). HasWorked spans (i + 1) old held next s) (sym w.share-is)
            (HasWorked-tried spans i true old seat next held share w.work_job.new.share worked inside
            (view ∙ ap (tried seat.view i) w.if-try_claim.true) w.work_job.ensures.parts w.work_job.ensures.grown)
        | else-try_claim w ↦
            subst (λ (s : ShareState). HasWorked spans (i + 1) old held next s) (sym w.share-is)
            (HasWorked-tried spans i false old seat next held share share worked inside
            (view ∙ ap (tried seat.view i) w.if-try_claim.false) refl (omega arith))
      ];
    }
