use Rattle.std.proofs.Common.{◌≡◌, ◌≢◌, ℕ, suc, ◌^◌, ◌≤◌, ◌&&◌, ◌==◌, min, nat_lt, Bool, true, false, if◌then◌else◌, List, [], ◌∷◌, length, map, Option, None, Some, unwrap_or, refl, sym, ap, ◌∙◌, arith, rules}
use Rattle.std.specs.Global.{Global}
use Rattle.std.specs.Option.{option_map_or}
use Rattle.std.specs.Prelude.{String, string_bytes}
use Rattle.std.proofs.lemmas.Bool.{cond_both, eqb-false, ltb-false}
use Rattle.std.proofs.lemmas.List.{length-map}
use Rattle.b3_io.specs.Operands.Operand.{Text}
use Rattle.b3_io.specs.Options.{AreBounds, max_output_len}
use Rattle.b3_io.specs.declared.options.Form.TheVariants.{Named, Bare, Raw, Tagged}
use Rattle.b3_program.specs.Tasks.{check_options, job_for, sum_options, task_for, workers_of}
use Rattle.b3_program.specs.Usages.{refusal_for}
use Rattle.b3_program.specs.declared.task.Job.TheVariants.{Sum, Check}
use Rattle.b3_program.specs.declared.task.Names.TheVariants.{Files, InList}
use Rattle.b3_program.specs.declared.words.Words.{Words}
use Rattle.b3_call.specs.Programs.{CanDo, CanTake, CanTakeNames, operands_of}
use Rattle.b3_call.proofs.RightLemmas.{EndsRightly-from_done, IsDone-from_done}
use Rattle.b3_call.proofs.Settled.{few_from_none, in_output_from_none}
use Rattle.b3_call.proofs.run.run_words.Goals as goal

-- how many workers there are
workers-bounds : (n : Option ℕ) → (1 ≤ workers_of n) × (workers_of n ≤ 64)
workers-bounds None = (omega arith, omega arith)
workers-bounds (Some n) =
    cond_both (n == 0) 4 (min n 64) (λ w. (1 ≤ w) × (w ≤ 64)) (λ _. (omega arith, omega arith))
    (λ some.
    let other : n ≢ 0 = eqb-false n 0 some in
    (omega (arith, other), omega arith))

-- the bounds of a run
bounds : (n : Option ℕ) → AreBounds (workers_of n) (2 ^ 40) (2 ^ 30)
bounds n = record { some_workers = workers-bounds n; some_turns = (omega arith, omega arith); fits = omega arith }

-- how long an output is
length-bound : (o : Option ℕ) → ((n : ℕ) → o ≡ Some n → n ≤ max_output_len) → unwrap_or o 32 ≤ max_output_len
length-bound None within = omega arith
length-bound (Some n) within = within n refl

-- raw output was asked for
raw-from_form : (raw no_names tag : Bool)
    → (if raw then Raw else if no_names then Bare else if tag then Tagged else Named) ≡ Raw → raw ≡ true
raw-from_form true no_names tag is = refl
raw-from_form false true tag is = cc is
raw-from_form false false true is = cc is
raw-from_form false false false is = cc is

-- how many names are read
names-few : (files : List (String Global)) → length files ≤ 2 ^ 30 → length (operands_of files) ≤ 2 ^ 30
names-few [] few = omega arith
names-few (x ∷ files) few = omega (arith, few, length-map (map string_bytes files) Text, length-map files string_bytes)

-- one name is read
names-one : (files : List (String Global)) → nat_lt 1 (length files) ≡ false → length (operands_of files) ≤ 1
names-one [] few = omega arith
names-one (x ∷ []) few = omega arith
names-one (x ∷ y ∷ files) few = absurd (omega (arith, ltb-false 1 (suc (suc (length files))) few))

-- the files can be taken, where they are the operands
can_take : (words : Words) (list : Option (String Global)) → refusal_for words ≡ None
    → CanTakeNames (job_for words) (option_map_or InList list (Files words.files))
can_take words (Some list) none = tt
can_take words None none =
    let count = words.files.ok.0 in
    let files : length words.files.items ≤ 2 ^ 30 = omega (arith, words.files_in_range, count) in
    let few = names-few words.files.items files in
    cond_both words.check (Check (check_options words)) (Sum (sum_options words))
    (λ job. CanTake job (operands_of words.files.items))
    (λ check. few)
    (λ sum. (
      few,
      λ raw.
          let is = raw-from_form words.raw words.no_names words.tag raw in
          names-one words.files.items
          (ap (nat_lt 1) (sym count) ∙ sym (ap (λ r. r && nat_lt 1 words.files.len) is) ∙ few_from_none words none),
    ))

pub run_task-requires-clause-job : goal.run_task-requires-clause-job
run_task-requires-clause-job g c = λ _ _.
    let words = c.args.words in
    let can : CanDo (job_for words) =
    cond_both words.check (Check (check_options words)) (Sum (sum_options words)) CanDo
    (λ check. bounds words.num_threads)
    (λ sum. record {
      length = length-bound words.length words.length_in_range;
      in_output = in_output_from_none words c.in-Ok.ensures.task.0;
      bounds = bounds words.num_threads;
    }) in
    rw c.in-Ok.ensures.task.1 can

pub run_task-requires-clause-names : goal.run_task-requires-clause-names
run_task-requires-clause-names g c = λ _ _.
    rw c.in-Ok.ensures.task.1 (can_take c.args.words c.args.words.files0_from c.in-Ok.ensures.task.0)

pub returns-in-Err-clause-ends : goal.returns-in-Err-clause-ends
returns-in-Err-clause-ends g c =
    rw c.in-Err.ensures.usage (record {
      whole = c.refuse.ensures.said.whole;
      said = c.refuse.ensures.said.said;
      kept = refl;
      status_is = c.refuse.ensures.status;
    })

pub returns-in-Err-clause-right : goal.returns-in-Err-clause-right
returns-in-Err-clause-right g c contents told none = absurd (cc (sym none ∙ c.in-Err.ensures.usage))

pub returns-in-Err-clause-done : goal.returns-in-Err-clause-done
returns-in-Err-clause-done g c contents told passed =
    let two = sym c.refuse.ensures.status ∙ passed in absurd (omega (arith, two))

pub returns-in-Ok-clause-right : goal.returns-in-Ok-clause-right
returns-in-Ok-clause-right g c contents told none =
    let done = rw c.in-Ok.ensures.task.1 at c.run_task.ensures in
    let right = EndsRightly-from_done contents (task_for c.args.words) _ _ c.run_task.result told done in
    search (rules, right)

pub returns-in-Ok-clause-done : goal.returns-in-Ok-clause-done
returns-in-Ok-clause-done g c contents told passed =
    let done = rw c.in-Ok.ensures.task.1 at c.run_task.ensures in
    let all = IsDone-from_done contents (task_for c.args.words) _ _ c.run_task.result told done passed in
    search (rules, all)

pub returns-in-Ok-clause-ends : goal.returns-in-Ok-clause-ends
returns-in-Ok-clause-ends g c = search rules
