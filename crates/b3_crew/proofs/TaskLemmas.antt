-- Tasks: their scripts, runs of the tasks so far, and those of one.
use Rattle.std.proofs.Common.{◌≡◌, ℕ, ◌+◌, ◌*◌, ◌≤◌, true, false, if◌then◌else◌, Bool, List, [], ◌∷◌, ◌++◌, length, map, Option, None, Some, Result, Ok, Err, IfErr, OnOk, refl, sym, ◌∙◌, ap, append_assoc, length-append, inl, arith}
use Rattle.std.proofs.lemmas.List.{append-nil, map-append}
use Rattle.b3_io.specs.declared.message.Message.{Message}
use Rattle.b3_io.specs.declared.tally.Tally.{Tally}
use Rattle.b3_io.specs.declared.fault.RunFault.{RunFault}
use Rattle.b3_io.specs.declared.fault.RunFault.TheVariants.{WriteFault, Memory}
use Rattle.b3_io.specs.declared.output_range.OutputRange.{OutputRange}
use Rattle.b3_io.specs.declared.items.Request.{Request}
use Rattle.b3_io.specs.declared.items.Request.TheVariants.{Line, Name}
use Rattle.b3_io.specs.declared.judging.Verdict.{Verdict}
use Rattle.b3_io.specs.declared.judging.Verdict.TheVariants.{Good, Differs, Missing, Unreadable}
use Rattle.b3_io.specs.Checks.{verdict_on, verdict_tally}
use Rattle.b3_io.specs.declared.options.CheckOptions.{CheckOptions}
use Rattle.b3_io.specs.declared.options.Form.{Form}
use Rattle.b3_io.specs.declared.options.Limits.{Limits}
use Rattle.b3_io.specs.Contents.{Contents, HasContent}
use Rattle.b3_io.specs.Owing.{RanOwing, SaysOwing, on_out}
use Rattle.b3_io.specs.Runs.{Broke, CanCount, IoState, Ran, Stopped, Went}
use Rattle.b3_io.specs.Scripts.{AgreesWith, Given, answer_of, followed_by, in_turn}
use Rattle.b3_io.specs.Scripts.Kind.{Hashed}
use Rattle.b3_io.specs.Scripts.Script.{Done, Say}
use Rattle.b3_io.specs.Sums.{name_report}
use Rattle.b3_io.specs.Tallies.{no_tally, one_failed, one_missing, tally_sum}
use Rattle.b3_io.specs.Tasks.{counted, Found, Task, report_of, request_report, task_script, tasks_script}
use Rattle.b3_crew.specs.Crews.{SoFar}
use Rattle.b3_crew.proofs.OwingLemmas.{owing_done, owing_found, owing_stopped, owing_then, owing_written, stopped_found}
use Rattle.b3_io.proofs.RunLemmas.{stopped_at_once, stopped_early, stopped_said, went_nowhere}
use Rattle.b3_io.proofs.ScriptLemmas.{in_turn-append, in_turn-more, joined-nothing}

-- ---- one task

-- what is said without asking
pub found_told : (a : IoState) (message : Message) → Found (Say (report_of message) Done) a a message
found_told a message =
    record { answers = []; agree = tt; complete = tt; went = went_nowhere a; is = sym (joined-nothing (report_of message)) }

-- what is known of a name
pub agrees_known : (told : Option Contents) (sure : Bool) (name content : List ℕ) → HasContent told name content
    → AgreesWith told sure Hashed name (Ok content)
agrees_known None sure name content has = tt
agrees_known (Some contents) sure name content has = inl (sym (ap (answer_of Hashed) has))

-- what is said of a name is counted at most twice
pub counted-name_report : (form : Form) (name : List ℕ) (digest : Given (List ℕ))
    → counted (name_report form name digest).tally ≤ 2
counted-name_report form name (Err why) = omega arith
counted-name_report form name (Ok digest) = omega arith

counted-verdict_tally : (options : CheckOptions) (verdict : Verdict) → counted (verdict_tally options verdict) ≤ 2
counted-verdict_tally options Good = omega arith
counted-verdict_tally options Differs = omega arith
counted-verdict_tally options Unreadable = omega arith
counted-verdict_tally options Missing =
    elim options.ignore_missing as (λ b. counted (if b then one_missing else one_failed) ≤ 2)
    [ true ↦ omega arith | false ↦ omega arith ]

pub counted-request_report : (request : Request) (digest : Given (List ℕ))
    → counted (request_report request digest).tally ≤ 2
counted-request_report (Name form name) digest = counted-name_report form name.now digest
counted-request_report (Line options line) digest = counted-verdict_tally options (verdict_on line.digest digest)

-- ---- tasks so far

pub so_far_none : {range : OutputRange} {all : List Task} {a : IoState} {m : Tally} → m ≡ no_tally
    → SoFar range all all a a [] m
so_far_none {range} {all} {a} {m} is =
    record { done = []; parts = refl; ran = rw is (owing_done a); twice = rw is (omega arith); failures = omega arith }

-- one more task is run
pub so_far_more : {range : OutputRange} {all rest : List Task} {a b c : IoState} {v w : List ℕ} {m n : Tally} (task : Task)
    → SoFar range all (task ∷ rest) a b v m → RanOwing (task_script range task) b c v w n → counted n ≤ 2
    → c.failures ≤ b.failures + 1
    → SoFar range all rest a c w (tally_sum m n)
so_far_more {range} {all} {rest} {a} {b} {c} {v} {w} {m} {n} task so_far ran two count =
    let done = so_far.done in
    let script : tasks_script range (done ++ task ∷ []) ≡ followed_by (tasks_script range done)
    (task_script range task) =
    ap in_turn (map-append (task_script range) done (task ∷ []))
    ∙ in_turn-more (map (task_script range) done) (task_script range task) in
    record {
      done = done ++ task ∷ [];
      parts = so_far.parts ∙ sym (append_assoc done (task ∷ []) rest);
      ran = rw script (owing_then so_far.ran ran);
      twice = omega (arith, length-append done (task ∷ []), so_far.twice, two);
      failures = omega (arith, length-append done (task ∷ []), so_far.failures, count);
    }

-- the script of all tasks is that of those done, and then of those left
so_far_script : {range : OutputRange} {all left : List Task} {a b : IoState} {v : List ℕ} {m : Tally}
    (so_far : SoFar range all left a b v m)
    → tasks_script range all ≡ followed_by (tasks_script range so_far.done) (tasks_script range left)
so_far_script {range} {all} {left} so_far =
    ap (tasks_script range) so_far.parts
    ∙ ap in_turn (map-append (task_script range) so_far.done left)
    ∙ in_turn-append (map (task_script range) so_far.done) (map (task_script range) left)

-- a run stops at a task
pub so_far_stopped : {range : OutputRange} {all rest : List Task} {a b c : IoState} {v : List ℕ} {m : Tally} {limits : Limits}
    {fault : RunFault} (task : Task)
    → SoFar range all (task ∷ rest) a b v m → Stopped limits (Say (on_out v) (task_script range task)) b c fault
    → Stopped limits (tasks_script range all) a c fault
so_far_stopped {range} {all} {rest} {a} {b} {c} {v} {m} {limits} {fault} task so_far stopped =
    rw (so_far_script so_far) (owing_stopped so_far.ran (stopped_early (tasks_script range rest) stopped))

-- what is found of the next task is said, and so one more is run
pub so_far_said : {T : Type 0} (range : OutputRange) (all : List Task) (a : IoState) {b c : IoState} (d : IoState)
    (v w : List ℕ) (m n : Tally) {message : Message} (task : Task) (result : Result T RunFault)
    → Found (task_script range task) b c message → counted message.tally ≤ 2 → c.failures ≤ b.failures + 1
    → SaysOwing (report_of message) c d v w result → OnOk result (n ≡ tally_sum m message.tally)
    → OnOk result ((left : List Task) → SoFar range all (task ∷ left) a b v m → SoFar range all left a d w n)
so_far_said range all a d v w m n task (Ok done) found two count said tally = λ left so_far.
    rw tally (so_far_more task so_far (owing_found found said) two (omega (arith, count, said.went.heard.failures)))
so_far_said range all a d v w m n task (Err fault) found two count said tally = tt

-- or the run stops at it
pub so_far_unsaid : {T : Type 0} (range : OutputRange) (all : List Task) (a : IoState) {b c : IoState} (d : IoState)
    (v w : List ℕ) (m : Tally) {message : Message} (limits : Limits) (task : Task) (result : Result T RunFault)
    → Found (task_script range task) b c message → SaysOwing (report_of message) c d v w result
    → IfErr result (λ fault. (left : List Task) → SoFar range all (task ∷ left) a b v m
    → Stopped limits (tasks_script range all) a d fault)
so_far_unsaid range all a d v w m limits task (Ok done) found said = tt
so_far_unsaid range all a d v w m limits task (Err fault) found said = λ left so_far.
    so_far_stopped task so_far (stopped_found found said.0 said.1)

-- a run stops before the next task
pub so_far_refused : {range : OutputRange} {all left : List Task} {a b : IoState} {v : List ℕ} {m : Tally} {limits : Limits}
    {fault : RunFault}
    → SoFar range all left a b v m → fault ≡ Memory → Stopped limits (tasks_script range all) a b fault
so_far_refused {range} {all} {left} {a} {b} {v} {m} {limits} {fault} so_far refused =
    rw (so_far_script so_far)
    (owing_stopped so_far.ran (stopped_at_once (Say (on_out v) (tasks_script range left)) b fault refused))

-- a sink fails after all tasks
pub so_far_unwritten : {range : OutputRange} {all left : List Task} {a b c : IoState} {v : List ℕ} {m : Tally}
    {limits : Limits} {fault : RunFault}
    → SoFar range all left a b v m → left ≡ [] → Broke b c [] (on_out v) fault → fault ≡ WriteFault
    → Stopped limits (tasks_script range all) a c fault
so_far_unwritten {range} {all} {left} {a} {b} {c} {v} {m} {limits} {fault} so_far none broke is =
    let script = so_far_script so_far
    ∙ ap (λ tasks. followed_by (tasks_script range so_far.done) (tasks_script range tasks)) none in
    rw script
    (owing_stopped so_far.ran (stopped_said (on_out v) broke (inl is)))

-- no task is left, and what was owed is written
pub so_far_all : {range : OutputRange} {all left : List Task} {a b c : IoState} {v : List ℕ} {m : Tally} → left ≡ []
    → SoFar range all left a b v m → Went b c [] (on_out v)
    → Ran (tasks_script range all) a c m × (counted m ≤ 2 * length all) × (c.failures ≤ a.failures + length all)
so_far_all {range} {all} {left} {a} {b} {c} {v} {m} none so_far written =
    let same : all ≡ so_far.done = so_far.parts ∙ ap (λ xs. so_far.done ++ xs) none ∙ append-nil so_far.done in (
      rw same (owing_written so_far.ran written),
      rw same so_far.twice,
      rw same (omega (arith, so_far.failures, written.heard.failures)),
    )

-- how many are done, and how many are left
so_far_length : {range : OutputRange} {all left : List Task} {a b : IoState} {v : List ℕ} {m : Tally}
    (so_far : SoFar range all left a b v m)
    → length all ≡ length so_far.done + length left
so_far_length {range} {all} {left} {a} {b} {v} {m} so_far =
    ap (λ (xs : List Task). length xs) so_far.parts ∙ length-append so_far.done left

-- the next failures can be counted
pub so_far_room : {range : OutputRange} {all rest : List Task} {task : Task} {a b : IoState} {v : List ℕ} {m : Tally}
    → CanCount a (length all)
    → SoFar range all (task ∷ rest) a b v m → CanCount b 1
so_far_room {range} {all} {rest} {task} {a} {b} {v} {m} countable so_far =
    let went = so_far.ran.went.went in
    record {
      shelf = omega (arith, countable.shelf, so_far.failures, so_far_length so_far);
      out = omega (arith, countable.out, went.out.count);
      err = omega (arith, countable.err, went.err.count);
    }

-- those of the sinks after all tasks
pub so_far_last_room : {range : OutputRange} {all left : List Task} {a b : IoState} {v : List ℕ} {m : Tally}
    → CanCount a (length all)
    → SoFar range all left a b v m → CanCount b 0
so_far_last_room {range} {all} {left} {a} {b} {v} {m} countable so_far =
    let went = so_far.ran.went.went in
    record {
      shelf = omega (arith, countable.shelf, so_far.failures, so_far_length so_far);
      out = omega (arith, countable.out, went.out.count);
      err = omega (arith, countable.err, went.err.count);
    }

-- the shelf failed no more often than there are tasks
pub so_far_least : {range : OutputRange} {all left : List Task} {a b : IoState} {v : List ℕ} {m : Tally}
    → SoFar range all left a b v m
    → b.failures ≤ a.failures + length all
so_far_least {range} {all} {left} {a} {b} {v} {m} so_far = omega
    (arith, so_far.failures, so_far_length so_far)

pub so_far_least_next : {range : OutputRange} {all rest : List Task} {task : Task} {a b : IoState} {v : List ℕ} {m : Tally}
    (failures : ℕ)
    → SoFar range all (task ∷ rest) a b v m
    → failures ≤ b.failures + 1 → failures ≤ a.failures + length all
so_far_least_next {range} {all} {rest} {task} {a} {b} {v} {m} failures so_far count =
    omega (arith, count, so_far.failures, so_far_length so_far)
