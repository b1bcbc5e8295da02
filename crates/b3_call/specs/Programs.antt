-- What a call of the program does, from its words on.
use Rattle.std.specs.Prelude.{◌≡◌, ◌≢◌, ◌⊎◌, ⊤, ◌^◌, ◌≤◌, ℕ, List, [], ◌∷◌, All, Bool, Option, None, Some, Result, Ok, Err, MatchResult, String, codes, length, map, string_bytes}
use Rattle.std.specs.Global.{Global}
use Rattle.std.specs.Io.KnownBytes.{Appends}
use Rattle.b3_io.specs.declared.fault.RunFault.{RunFault}
use Rattle.b3_io.specs.declared.options.Form.TheVariants.{Raw}
use Rattle.b3_io.specs.declared.options.Limits.{Limits}
use Rattle.b3_io.specs.declared.tally.Tally.{Tally}
use Rattle.b3_io.specs.Checks.{check_script, warning_report}
use Rattle.b3_io.specs.Contents.{Contents, input_name}
use Rattle.b3_io.specs.Faults.{fault_text}
use Rattle.b3_io.specs.Operands.{Operand, operands_in}
use Rattle.b3_io.specs.Operands.Operand.{Text}
use Rattle.b3_io.specs.Options.{CanCheck, CanRun}
use Rattle.b3_io.specs.Runs.{Heard, Ran, RanSurely, IoState, SinkState, Stopped}
use Rattle.b3_io.specs.Scripts.{AgreesWith, Answer, Script, nothing}
use Rattle.b3_io.specs.Scripts.Kind.{Listed}
use Rattle.b3_io.specs.Scripts.Script.{Ask, Done, Say}
use Rattle.b3_io.specs.Sinks.{GainsBeginning}
use Rattle.b3_io.specs.Sums.{failed_report, sum_script}
use Rattle.b3_io.specs.Tallies.{status_of}
use Rattle.b3_check.specs.Laws.{HasLine, ListOperandIsRight, ListOperandIsVerified, OperandIsRight, WritesRightly}
use Rattle.b3_program.specs.Lists.{refusal_over}
use Rattle.b3_program.specs.Said.{IsSaid, line_of}
use Rattle.b3_program.specs.Tasks.{limits_for, task_for}
use Rattle.b3_program.specs.Usages.{refusal_for}
use Rattle.b3_program.specs.declared.task.Job.{Job}
use Rattle.b3_program.specs.declared.task.Job.TheVariants.{Sum, Check}
use Rattle.b3_program.specs.declared.task.Names.{Names}
use Rattle.b3_program.specs.declared.task.Names.TheVariants.{Files, InList}
use Rattle.b3_program.specs.declared.task.Task.{Task}
use Rattle.b3_program.specs.declared.words.Words.{Words}

-- the names that are read: the files, or standard input where there are none
abbrev pub names_of : List (List ℕ) → List (List ℕ)
names_of [] = input_name ∷ []
names_of (file ∷ files) = file ∷ files

abbrev pub operands_of : List (String Global) → List Operand
operands_of files = map Text (names_of (map string_bytes files))

-- the script of a job over operands
abbrev pub script_of : Job → List Operand → Script
script_of (Sum options) operands = sum_script options operands
script_of (Check options) operands = check_script options operands

-- an engine takes the job, and these operands for it
abbrev pub CanDo : Job → Type 0
CanDo (Sum options) = CanRun options
CanDo (Check options) = CanCheck options

abbrev pub CanTake : Job → List Operand → Type 0
CanTake (Sum options) operands = (length operands ≤ 2 ^ 30) × (options.form ≡ Raw → length operands ≤ 1)
CanTake (Check options) operands = length operands ≤ 2 ^ 30

-- it takes the files of a task; those in a list are not known yet
abbrev pub CanTakeNames : Job → Names → Type 0
CanTakeNames job (Files files) = CanTake job (operands_of files.items)
CanTakeNames job (InList list) = ⊤

-- the same state, but with another error output
abbrev pub with_err : IoState → SinkState → IoState
with_err io_state err = record io_state { err = err }

-- the words are refused: this is said, and nothing else is done
pub record EndsRefused (text : List ℕ) (before after : IoState) (status : ℕ) : Type 0 where
  pub whole : Bool
  pub said : IsSaid before.err after.err (line_of text) whole
  pub kept : with_err after before.err ≡ before
  pub status_is : status ≡ 2

-- the run went to its end, and the status is that of its tally
pub record EndsWell (script : Script) (before after : IoState) (status : ℕ) : Type 0 where
  pub tally : Tally
  pub ran : Ran script before after tally
  pub surely : RanSurely script before after tally
  pub status_is : status ≡ status_of tally

-- the run stopped at a fault, then its line was said, and the status is 1
pub record EndsAtFault (limits : Limits) (script : Script) (before after : IoState) (status : ℕ) : Type 0 where
  pub fault : RunFault
  pub err : SinkState
  pub whole : Bool
  pub stopped : Stopped limits script before (with_err after err) fault
  pub said : IsSaid err after.err (line_of (fault_text fault)) whole
  pub status_is : status ≡ 1

-- a script is run to its end, or to a fault
abbrev pub Does : Limits → Script → IoState → IoState → ℕ → Type 0
Does limits script before after status =
    EndsWell script before after status ⊎ EndsAtFault limits script before after status

abbrev pub DoesJob : Job → List Operand → IoState → IoState → ℕ → Type 0
DoesJob job operands = Does (limits_for job) (script_of job operands)

-- the text of a refusal is said, or where there is none this is done
abbrev pub EndsAs : Option (List ℕ) → (IoState → IoState → ℕ → Type 0) → IoState → IoState → ℕ → Type 0
EndsAs None does = does
EndsAs (Some text) does = EndsRefused text

-- a list of names is asked for, and that is all; that it cannot be read is said, and that is all
abbrev pub reading_script : List ℕ → Script
reading_script list = Ask Listed list (λ answer. Done)

abbrev pub unread_script : List ℕ → Script
unread_script list = Say (failed_report list (codes "cannot read")) Done

-- the shelf gave this answer to the list of names, and nothing was said
pub record IsRead (list : List ℕ) (answer : Answer) (before after : IoState) : Type 0 where
  pub agrees : AgreesWith before.told before.sure Listed list answer
  pub heard : Heard before after (answer ∷ [])
  pub silent : (after.out ≡ before.out) × (after.err ≡ before.err)

-- what follows the answer: that the list cannot be read is said, and nothing else is done; or the job is done over
-- the operands in it, unless these are refused
abbrev pub EndsAfter : Job → List ℕ → Answer → IoState → IoState → ℕ → Type 0
EndsAfter job list (Err why) = Does (limits_for job) (unread_script list)
EndsAfter job list (Ok content) =
    EndsAs (refusal_over job (operands_in list content)) (DoesJob job (operands_in list content))

-- the list of names is answered first
pub record EndsByList (job : Job) (list : List ℕ) (before after : IoState) (status : ℕ) : Type 0 where
  pub answer : Answer
  pub between : IoState
  pub read : IsRead list answer before between
  pub ends : EndsAfter job list answer between after status

-- a job is done over the names in a list, or a fault stops it while that is read
abbrev pub DoesByList : Job → List ℕ → IoState → IoState → ℕ → Type 0
DoesByList job list before after status =
    EndsByList job list before after status
    ⊎ EndsAtFault (limits_for job) (reading_script list) before after status

abbrev pub DoesOver : Job → Names → IoState → IoState → ℕ → Type 0
DoesOver job (Files files) = DoesJob job (operands_of files.items)
DoesOver job (InList list) = DoesByList job (string_bytes list)

abbrev pub DoesTask : Task → IoState → IoState → ℕ → Type 0
DoesTask task = DoesOver task.job task.names

-- the words are refused, or their task is done
abbrev pub Ends : Words → IoState → IoState → ℕ → Type 0
Ends words = EndsAs (refusal_for words) (DoesTask (task_for words))

-- ---- over a shelf that tells its contents, in a user's words

-- a job writes the right line of each operand or a complaint, or the right verdict on each line
abbrev pub DoesRightly : Contents → Job → List Operand → Option (List ℕ) → Option (List ℕ) → Option (List ℕ)
    → Option (List ℕ) → Result Tally RunFault → Type 0
DoesRightly contents (Sum options) operands = WritesRightly (OperandIsRight contents options) (λ _. nothing) operands
DoesRightly contents (Check options) operands =
    WritesRightly (ListOperandIsRight contents options) (warning_report options) operands

-- it does, after a fault its line is said, and the status is that of the tally, or 1
pub record JobEndsRightly (contents : Contents) (job : Job) (operands : List Operand)
    (out_old out_new err_old err_new : Option (List ℕ)) (status : ℕ) : Type 0 where
  pub result : Result Tally RunFault
  pub err : Option (List ℕ)
  pub right : DoesRightly contents job operands out_old out_new err_old err result
  pub ends : MatchResult result (λ tally. (err_new ≡ err) × (status ≡ status_of tally))
      (λ fault. GainsBeginning err err_new (line_of (fault_text fault)) × (status ≡ 1))

-- nothing but a complaint, or a beginning of it, is written, and the status is not 0
pub record OnlyComplains (out_old out_new err_old err_new : Option (List ℕ)) (status : ℕ) : Type 0 where
  pub text : List ℕ
  pub said : GainsBeginning err_old err_new text
  pub silent : Appends out_old out_new []
  pub failed : status ≢ 0

-- a job over the names in a list ends rightly over those in its content, or only complains
abbrev pub EndsRightlyOver : Contents → Job → Names → Option (List ℕ) → Option (List ℕ) → Option (List ℕ)
    → Option (List ℕ) → ℕ → Type 0
EndsRightlyOver contents job (Files files) out_old out_new err_old err_new status =
    JobEndsRightly contents job (operands_of files.items) out_old out_new err_old err_new status
EndsRightlyOver contents job (InList list) out_old out_new err_old err_new status =
    ((content : List ℕ) × (contents (string_bytes list) ≡ Some content)
    × JobEndsRightly contents job (operands_in (string_bytes list) content) out_old out_new err_old err_new status)
    ⊎ OnlyComplains out_old out_new err_old err_new status

abbrev pub EndsRightly : Contents → Task → Option (List ℕ) → Option (List ℕ) → Option (List ℕ) → Option (List ℕ) → ℕ
    → Type 0
EndsRightly contents task = EndsRightlyOver contents task.job task.names

-- each operand has its line, or each line of each list is verified
abbrev pub JobIsDone : Contents → Job → List Operand → Option (List ℕ) → Option (List ℕ) → Option (List ℕ)
    → Option (List ℕ) → Type 0
JobIsDone contents (Sum options) operands out_old out_new err_old err_new =
    (tally : Tally)
    × WritesRightly (HasLine contents options) (λ _. nothing) operands out_old out_new err_old err_new (Ok tally)
JobIsDone contents (Check options) operands out_old out_new err_old err_new =
    All (ListOperandIsVerified contents options) operands

-- over the files, or over the names in the content of the list
abbrev pub IsDoneOver : Contents → Job → Names → Option (List ℕ) → Option (List ℕ) → Option (List ℕ)
    → Option (List ℕ) → Type 0
IsDoneOver contents job (Files files) out_old out_new err_old err_new =
    JobIsDone contents job (operands_of files.items) out_old out_new err_old err_new
IsDoneOver contents job (InList list) out_old out_new err_old err_new =
    (content : List ℕ) × (contents (string_bytes list) ≡ Some content)
    × JobIsDone contents job (operands_in (string_bytes list) content) out_old out_new err_old err_new

abbrev pub IsDone : Contents → Task → Option (List ℕ) → Option (List ℕ) → Option (List ℕ) → Option (List ℕ) → Type 0
IsDone contents task = IsDoneOver contents task.job task.names
