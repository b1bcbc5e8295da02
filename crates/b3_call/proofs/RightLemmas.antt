-- What a task that is done writes, over a shelf that tells its contents.
use Rattle.std.proofs.Common.{◌≡◌, ◌⊎◌, ℕ, Bool, true, false, List, [], ◌∷◌, ◌++◌, Option, None, Some, Result, Ok, Err, refl, sym, ◌∙◌, ap, subst, length, arith, inl, inr, codes, string_bytes}
use Rattle.std.specs.Io.KnownBytes.{Appends}
use Rattle.b3_io.specs.Contents.{Contents}
use Rattle.b3_io.specs.Faults.{fault_text}
use Rattle.b3_io.specs.Operands.{Operand, operands_in}
use Rattle.b3_io.specs.Options.{check_limits, limits_of}
use Rattle.b3_io.specs.Runs.{IoState, Runs, SinkState}
use Rattle.b3_io.specs.Scripts.{AgreesWith, Answer, Script, answer_of, report}
use Rattle.b3_io.specs.Scripts.Kind.{Listed}
use Rattle.b3_io.specs.Sinks.{GainsBeginning}
use Rattle.b3_io.specs.Sums.{complaint}
use Rattle.b3_io.specs.Tallies.{status_of}
use Rattle.b3_io.specs.declared.fault.RunFault.{RunFault}
use Rattle.b3_io.specs.declared.options.Limits.{Limits}
use Rattle.b3_io.specs.declared.tally.Tally.{Tally}
use Rattle.b3_io.proofs.Gains.{Appends-nil, GainsBeginning-all, GainsBeginning-append}
use Rattle.b3_check.proofs.RightLemmas.{WritesRightly-checks, WritesRightly-sums}
use Rattle.b3_check.proofs.VerifiedLemmas.{AllVerified-from_right, WritesRightly-lines}
use Rattle.b3_program.specs.Lists.{refusal_over}
use Rattle.b3_program.specs.Said.{IsSaid, line_of}
use Rattle.b3_program.specs.Tasks.{limits_for}
use Rattle.b3_program.specs.declared.task.Job.{Job}
use Rattle.b3_program.specs.declared.task.Job.TheVariants.{Sum, Check}
use Rattle.b3_program.specs.declared.task.Names.{Names}
use Rattle.b3_program.specs.declared.task.Names.TheVariants.{Files, InList}
use Rattle.b3_program.specs.declared.task.Task.{Task}
use Rattle.b3_call.specs.Programs.{Does, DoesByList, DoesJob, DoesOver, DoesRightly, DoesTask, EndsAfter, EndsAs, EndsAtFault, EndsRefused, EndsRightly, EndsRightlyOver, IsDone, IsDoneOver, IsRead, JobEndsRightly, JobIsDone, OnlyComplains, operands_of, reading_script, script_of, unread_script, with_err}

-- a text that is said, or a beginning of it
GainsBeginning-said : (before after : SinkState) (text : List ℕ) (whole : Bool) → IsSaid before after text whole
    → GainsBeginning before.held after.held text
GainsBeginning-said before after text true said =
    GainsBeginning-all before.held after.held text (said.all refl)
GainsBeginning-said before after text false said = said.part refl

-- ---- a job over operands

-- the run of a job writes rightly
DoesRightly-from_run : (contents : Contents) (job : Job) (operands : List Operand) (before after : IoState)
    (result : Result Tally RunFault) → before.told ≡ Some contents
    → Runs (limits_for job) (script_of job operands) before after result
    → DoesRightly contents job operands before.out.held after.out.held before.err.held after.err.held result
DoesRightly-from_run contents (Sum options) operands before after result told run =
    WritesRightly-sums (limits_of options) before after result contents options operands told run
DoesRightly-from_run contents (Check options) operands before after result told run =
    WritesRightly-checks (check_limits options) before after result contents options operands told run

JobEndsRightly-from_done : (contents : Contents) (job : Job) (operands : List Operand) (before after : IoState)
    (status : ℕ) → before.told ≡ Some contents → DoesJob job operands before after status
    → JobEndsRightly contents job operands before.out.held after.out.held before.err.held after.err.held status
JobEndsRightly-from_done contents job operands before after status told done = elim done [
  | inl well ↦ record {
    result = Ok well.tally;
    err = after.err.held;
    right = DoesRightly-from_run contents job operands before after (Ok well.tally) told well.ran;
    ends = (refl, well.status_is);
  }
  | inr broke ↦ record {
    result = Err broke.fault;
    err = broke.err.held;
    right = DoesRightly-from_run contents job operands before (with_err after broke.err) (Err broke.fault) told
        broke.stopped;
    ends = (GainsBeginning-said broke.err after.err _ broke.whole broke.said, broke.status_is);
  }
]

-- where the status is 0, the job is done wholly
JobIsDone-from_done : (contents : Contents) (job : Job) (operands : List Operand) (before after : IoState) (status : ℕ)
    → before.told ≡ Some contents → DoesJob job operands before after status → status ≡ 0
    → JobIsDone contents job operands before.out.held after.out.held before.err.held after.err.held
JobIsDone-from_done contents (Sum options) operands before after status told done passed = elim done [
  | inl well ↦ (
    well.tally,
    WritesRightly-lines contents options operands _ _ _ _ (Ok well.tally)
        (WritesRightly-sums (limits_of options) before after (Ok well.tally) contents options operands told
        well.ran) (sym well.status_is ∙ passed),
  )
  | inr broke ↦ let one = sym broke.status_is ∙ passed in absurd (omega (arith, one))
]
JobIsDone-from_done contents (Check options) operands before after status told done passed = elim done [
  | inl well ↦
      AllVerified-from_right contents options operands before.out.held after.out.held before.err.held after.err.held
      (Ok well.tally)
      (WritesRightly-checks (check_limits options) before after (Ok well.tally) contents options operands told
      well.ran)
      (sym well.status_is ∙ passed)
  | inr broke ↦ let one = sym broke.status_is ∙ passed in absurd (omega (arith, one))
]

-- ---- a complaint alone

nil_front : (xs ys : List ℕ) → [] ≡ xs ++ ys → xs ≡ []
nil_front [] ys is = refl
nil_front (x ∷ xs) ys is = absurd (omega (arith, ap (λ (zs : List ℕ). length zs) is))

-- the beginning of no text
Appends-beginning : (known more : Option (List ℕ)) → GainsBeginning known more [] → Appends known more []
Appends-beginning known more part =
    subst (Appends known more) (nil_front part.gained part.rest part.text_is) part.appends

-- a fault in a script that says nothing on the output
only_fault : (limits : Limits) (script : Script) (before after : IoState) (status : ℕ)
    → ((answers : List Answer) → (report script answers).out ≡ []) → EndsAtFault limits script before after status
    → OnlyComplains before.out.held after.out.held before.err.held after.err.held status
only_fault limits script before after status silent broke =
    let parts = broke.stopped.broke in
    let begun = parts.err.bytes in
    record {
      text = begun.gained ++ line_of (fault_text broke.fault);
      said = GainsBeginning-append before.err.held broke.err.held after.err.held begun.gained
          (line_of (fault_text broke.fault)) begun.appends
          (GainsBeginning-said broke.err after.err _ broke.whole broke.said);
      silent = Appends-beginning before.out.held after.out.held
          (subst (GainsBeginning before.out.held after.out.held) (silent broke.stopped.answers) parts.out.bytes);
      failed = λ passed. let one = sym broke.status_is ∙ passed in absurd (omega (arith, one));
    }

-- that a list cannot be read is said
only_unread : (limits : Limits) (list : List ℕ) (before after : IoState) (status : ℕ)
    → Does limits (unread_script list) before after status
    → OnlyComplains before.out.held after.out.held before.err.held after.err.held status
only_unread limits list before after status done = elim done [
  | inl well ↦ record {
    text = complaint list (codes "cannot read") ++ [];
    said = GainsBeginning-all before.err.held after.err.held _ well.ran.went.err.bytes;
    silent = well.ran.went.out.bytes;
    failed = λ passed.
        let one = sym (well.status_is ∙ ap status_of well.ran.counted) ∙ passed in
        absurd (omega (arith, one));
  }
  | inr broke ↦ only_fault limits (unread_script list) before after status (λ answers. refl) broke
]

-- a fault while a list is read
reading_silent : (list : List ℕ) (answers : List Answer) → (report (reading_script list) answers).out ≡ []
reading_silent list [] = refl
reading_silent list (answer ∷ answers) = refl

-- a refusal is said
only_refused : (refusal : List ℕ) (before after : IoState) (status : ℕ) → EndsRefused refusal before after status
    → OnlyComplains before.out.held after.out.held before.err.held after.err.held status
only_refused refusal before after status refused = record {
  text = line_of refusal;
  said = GainsBeginning-said before.err after.err _ refused.whole refused.said;
  silent = subst (λ (sink : SinkState). Appends before.out.held sink.held [])
      (sym (ap (λ (state : IoState). state.out) refused.kept)) (Appends-nil before.out.held);
  failed = λ passed. let two = sym refused.status_is ∙ passed in absurd (omega (arith, two));
}

-- ---- a job over the names in a list

-- a list that is read has the content that was read
content_found : (found : Option (List ℕ)) (content : List ℕ) → Ok content ≡ answer_of Listed found
    → found ≡ Some content
content_found None content is = absurd (cc is)
content_found (Some bytes) content is = let same : content ≡ bytes = cc in ap Some (sym same)

content_read : (contents : Contents) (sure : Bool) (list content : List ℕ)
    → AgreesWith (Some contents) sure Listed list (Ok content) → contents list ≡ Some content
content_read contents sure list content agrees = elim agrees [
  | inl is ↦ content_found (contents list) content is
  | inr unread ↦ let no = unread.0 in absurd (cc no)
]

-- the job ends rightly over the operands in the content, or there is a complaint alone
abbrev RightInList : Contents → Job → List ℕ → IoState → IoState → ℕ → Type 0
RightInList contents job list before after status =
    ((content : List ℕ) × (contents list ≡ Some content)
    × JobEndsRightly contents job (operands_in list content) before.out.held after.out.held before.err.held
    after.err.held status)
    ⊎ OnlyComplains before.out.held after.out.held before.err.held after.err.held status

-- and where the status is 0 it is done over them
abbrev DoneInList : Contents → Job → List ℕ → IoState → IoState → Type 0
DoneInList contents job list before after =
    (content : List ℕ) × (contents list ≡ Some content)
    × JobIsDone contents job (operands_in list content) before.out.held after.out.held before.err.held after.err.held

right_as : (contents : Contents) (job : Job) (list content : List ℕ) (refusal : Option (List ℕ))
    (between after : IoState) (status : ℕ) → between.told ≡ Some contents → contents list ≡ Some content
    → EndsAs refusal (DoesJob job (operands_in list content)) between after status
    → RightInList contents job list between after status
right_as contents job list content None between after status told has done =
    inl (content, has, JobEndsRightly-from_done contents job (operands_in list content) between after status told done)
right_as contents job list content (Some refusal) between after status told has refused =
    inr (only_refused refusal between after status refused)

done_as : (contents : Contents) (job : Job) (list content : List ℕ) (refusal : Option (List ℕ))
    (between after : IoState) (status : ℕ) → between.told ≡ Some contents → contents list ≡ Some content
    → EndsAs refusal (DoesJob job (operands_in list content)) between after status → status ≡ 0
    → DoneInList contents job list between after
done_as contents job list content None between after status told has done passed =
    (content, has, JobIsDone-from_done contents job (operands_in list content) between after status told done passed)
done_as contents job list content (Some refusal) between after status told has refused passed =
    absurd ((only_refused refusal between after status refused).failed passed)

right_after : (contents : Contents) (job : Job) (list : List ℕ) (answer : Answer) (sure : Bool)
    (between after : IoState) (status : ℕ) → between.told ≡ Some contents
    → AgreesWith (Some contents) sure Listed list answer → EndsAfter job list answer between after status
    → RightInList contents job list between after status
right_after contents job list (Err why) sure between after status told agrees unread =
    inr (only_unread (limits_for job) list between after status unread)
right_after contents job list (Ok content) sure between after status told agrees ends =
    right_as contents job list content (refusal_over job (operands_in list content)) between after status told
    (content_read contents sure list content agrees) ends

done_after : (contents : Contents) (job : Job) (list : List ℕ) (answer : Answer) (sure : Bool)
    (between after : IoState) (status : ℕ) → between.told ≡ Some contents
    → AgreesWith (Some contents) sure Listed list answer → EndsAfter job list answer between after status
    → status ≡ 0 → DoneInList contents job list between after
done_after contents job list (Err why) sure between after status told agrees unread passed =
    absurd ((only_unread (limits_for job) list between after status unread).failed passed)
done_after contents job list (Ok content) sure between after status told agrees ends passed =
    done_as contents job list content (refusal_over job (operands_in list content)) between after status told
    (content_read contents sure list content agrees) ends passed

-- what the shelf tells after the list was read
told_between : (contents : Contents) (list : List ℕ) (answer : Answer) (before between : IoState)
    → before.told ≡ Some contents → IsRead list answer before between → between.told ≡ Some contents
told_between contents list answer before between told read = read.heard.told ∙ told

agrees_told : (contents : Contents) (list : List ℕ) (answer : Answer) (before between : IoState)
    → before.told ≡ Some contents → IsRead list answer before between
    → AgreesWith (Some contents) before.sure Listed list answer
agrees_told contents list answer before between told read =
    subst (λ (t : Option Contents). AgreesWith t before.sure Listed list answer) told read.agrees

right_in_list : (contents : Contents) (job : Job) (list : List ℕ) (before after : IoState) (status : ℕ)
    → before.told ≡ Some contents → DoesByList job list before after status
    → RightInList contents job list before after status
right_in_list contents job list before after status told done = elim done [
  | inl by_list ↦
      let read = by_list.read in
      let right = right_after contents job list by_list.answer before.sure by_list.between after status
      (told_between contents list by_list.answer before by_list.between told read)
      (agrees_told contents list by_list.answer before by_list.between told read) by_list.ends in
      rw (read.silent.0, read.silent.1) at right
  | inr broke ↦ inr (only_fault (limits_for job) (reading_script list) before after status (reading_silent list) broke)
]

done_in_list : (contents : Contents) (job : Job) (list : List ℕ) (before after : IoState) (status : ℕ)
    → before.told ≡ Some contents → DoesByList job list before after status → status ≡ 0
    → DoneInList contents job list before after
done_in_list contents job list before after status told done passed = elim done [
  | inl by_list ↦
      let read = by_list.read in
      let all = done_after contents job list by_list.answer before.sure by_list.between after status
      (told_between contents list by_list.answer before by_list.between told read)
      (agrees_told contents list by_list.answer before by_list.between told read) by_list.ends passed in
      rw (read.silent.0, read.silent.1) at all
  | inr broke ↦ let one = sym broke.status_is ∙ passed in absurd (omega (arith, one))
]

-- ---- a task

right_over : (contents : Contents) (job : Job) (names : Names) (before after : IoState) (status : ℕ)
    → before.told ≡ Some contents → DoesOver job names before after status
    → EndsRightlyOver contents job names before.out.held after.out.held before.err.held after.err.held status
right_over contents job (Files files) before after status told done =
    JobEndsRightly-from_done contents job (operands_of files.items) before after status told done
right_over contents job (InList list) before after status told done =
    right_in_list contents job (string_bytes list) before after status told done

pub EndsRightly-from_done : (contents : Contents) (task : Task) (before after : IoState) (status : ℕ)
    → before.told ≡ Some contents → DoesTask task before after status
    → EndsRightly contents task before.out.held after.out.held before.err.held after.err.held status
EndsRightly-from_done contents task before after status told done =
    right_over contents task.job task.names before after status told done

-- where the status is 0, the task is done wholly
done_over : (contents : Contents) (job : Job) (names : Names) (before after : IoState) (status : ℕ)
    → before.told ≡ Some contents → DoesOver job names before after status → status ≡ 0
    → IsDoneOver contents job names before.out.held after.out.held before.err.held after.err.held
done_over contents job (Files files) before after status told done passed =
    JobIsDone-from_done contents job (operands_of files.items) before after status told done passed
done_over contents job (InList list) before after status told done passed =
    done_in_list contents job (string_bytes list) before after status told done passed

pub IsDone-from_done : (contents : Contents) (task : Task) (before after : IoState) (status : ℕ)
    → before.told ≡ Some contents → DoesTask task before after status → status ≡ 0
    → IsDone contents task before.out.held after.out.held before.err.held after.err.held
IsDone-from_done contents task before after status told done passed =
    done_over contents task.job task.names before after status told done passed
