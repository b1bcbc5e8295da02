use Rattle.std.proofs.Common.{arith, ◌≡◌, ℕ, ◌+◌, ◌≤◌, ap, ◌∙◌, sym, Result, Ok, Err, OnOk, OnErr, Option, Some, None, map, option_map, subst}
use Rattle.std.specs.List.{slice_get}
use Rattle.std.proofs.lemmas.Option.{get_or_from_slice_get, slice_get-map}
use Rattle.b3_core.specs.declared.spans.Span.{Span}
use Rattle.b3_board.specs.Shares.{ShareState, grown}
use Rattle.b3_board.specs.Plans.{JobState, PlanState, job_of}
use Rattle.b3_board.specs.WorkerRuns.{count_at}
use Rattle.b3_board.proofs.workers.work_job.Goals as goal

-- after a deposit, done or refused: the share's parts, and its chunks
after_parts : {T E : Type 0} (r : Result T E) (old new : ShareState) (count : ℕ)
    → OnOk r (new ≡ grown old count) → OnErr r (new ≡ old) → new.parts ≡ old.parts
after_parts (Ok x) old new count ok err = ap (λ share. share.parts) ok
after_parts (Err x) old new count ok err = ap (λ share. share.parts) err

after_grown : {T E : Type 0} (r : Result T E) (old new : ShareState) (count : ℕ)
    → OnOk r (new ≡ grown old count) → OnErr r (new ≡ old) → new.chunks ≤ old.chunks + count
after_grown (Ok x) old new count ok err = omega (arith, ap (λ share. share.chunks) ok)
after_grown (Err x) old new count ok err = omega (arith, ap (λ share. share.chunks) err)

-- a job has the chunks of its span
job_count : (plan : PlanState) (found : Option Span) (job : JobState) → Some job ≡ option_map (job_of plan) found
    → option_map (λ (s : Span). s.count) found ≡ Some job.span.count
job_count plan (Some span) job is = ap (option_map (λ (j : JobState). j.span.count)) (sym is)
job_count plan None job is = ap (option_map (λ (j : JobState). j.span.count)) (sym is)

count_is : (plan : PlanState) (i : ℕ) (job : JobState) → Some job ≡ option_map (job_of plan) (slice_get plan.spans i)
    → job.span.count ≡ count_at plan.spans i
count_is plan i job is =
    sym (get_or_from_slice_get (map (λ (s : Span). s.count) plan.spans) i job.span.count 0
    (slice_get-map (λ (s : Span). s.count) plan.spans i ∙ job_count plan (slice_get plan.spans i) job is))

pub returns-clause-parts : goal.returns-clause-parts
returns-clause-parts g c =
    after_parts c.deposit-refused.result _ _ _ c.deposit-refused.ensures.share c.deposit-refused.ensures.share_unchanged

pub returns-clause-grown : goal.returns-clause-grown
returns-clause-grown g c =
    subst (λ (n : ℕ). c.deposit-refused.new.share.chunks ≤ c.args.share.now.chunks + n)
    (ap (λ done. done.span.count) c.work-done.ensures ∙ count_is c.args.plan.now c.args.i c.in-Some.job c.in-Some.ensures)
    (after_grown c.deposit-refused.result _ _ _ c.deposit-refused.ensures.share c.deposit-refused.ensures.share_unchanged)
