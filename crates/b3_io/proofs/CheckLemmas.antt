-- Runs over lists of check lines.
use Rattle.std.proofs.Common.{◌≡◌, ℕ, suc, ◌+◌, ◌*◌, ◌^◌, ◌≤◌, List, [], ◌∷◌, ◌++◌, length, map, Option, None, Some, Result, Ok, Err, refl, sym, ◌∙◌, ap, add-one, append_assoc, length-append, arith}
use Rattle.std.proofs.Math.Nat.{mul-le-mul_right, suc-mul}
use Rattle.std.proofs.lemmas.List.{append-nil, map-append}
use Rattle.b3_lines.specs.Lines.{line_at}
use Rattle.b3_lines.specs.Reading.{IsReadAs, first_refusal}
use Rattle.b3_lines.specs.declared.fault.LineFault.{LineFault}
use Rattle.b3_lines.proofs.Outcomes.{SaysAs-from_IsReadAs}
use Rattle.b3_io.specs.declared.fault.RunFault.{RunFault}
use Rattle.b3_io.specs.declared.options.CheckOptions.{CheckOptions}
use Rattle.b3_io.specs.declared.options.Limits.{Limits}
use Rattle.b3_io.specs.declared.tally.Tally.{Tally}
use Rattle.b3_io.specs.Checks.{Entry, decoded, entry_of, line_script, line_scripts, list_operand_script, lists_script, verdict_on, verdict_report}
use Rattle.b3_io.specs.Digests.{line_range}
use Rattle.b3_io.specs.Operands.{Operand}
use Rattle.b3_io.specs.Reading.{Answered}
use Rattle.b3_io.specs.Runs.{CanCount, IoState, Ran, Runs, Stopped}
use Rattle.b3_io.specs.Scripts.{Answer, Kind, Script, followed_by, in_turn}
use Rattle.b3_io.specs.Scripts.Script.{Ask}
use Rattle.b3_io.specs.Tallies.{no_tally, tally_sum}
use Rattle.b3_io.specs.Tasks.{counted, line_task, line_tasks, task_script, tasks_script}
use Rattle.b3_io.specs.Tasks.Task.{Find}
use Rattle.b3_io.proofs.RunLemmas.{ran_answered, ran_done, ran_then, ran_then_stopped, stopped_answered, stopped_early}
use Rattle.b3_io.proofs.ScriptLemmas.{in_turn-append, in_turn-more}

-- ---- lines

-- the tasks of lines have their scripts
task_script-line : (options : CheckOptions) (list : List ℕ) (number : ℕ) (line : List ℕ) (refusal : Option LineFault)
    → task_script line_range (line_task options list number line refusal)
    ≡ line_script options list number line refusal
task_script-line options list number line (Some fault) = refl
task_script-line options list number line None = refl

pub tasks_script-lines : (options : CheckOptions) (list : List ℕ) (number : ℕ) (lines : List (List ℕ))
    → tasks_script line_range (line_tasks options list number lines) ≡ in_turn (line_scripts options list number lines)
tasks_script-lines options list number [] = refl
tasks_script-lines options list number (line ∷ lines) = λ i.
    followed_by (task_script-line options list number line (first_refusal line) i)
    (tasks_script-lines options list (number + 1) lines i)

-- there are as many
pub length-line_tasks : (options : CheckOptions) (list : List ℕ) (number : ℕ) (lines : List (List ℕ))
    → length (line_tasks options list number lines) ≡ length lines
length-line_tasks options list number [] = refl
length-line_tasks options list number (line ∷ lines) = ap suc (length-line_tasks options list (number + 1) lines)

-- a line that is read has its entry
pub entry_of-read : (line digest name shown : List ℕ) → IsReadAs line digest name shown
    → entry_of line ≡ record { digest = digest; name = name; shown = shown }
unfolding entry_of
entry_of-read line digest name shown reads =
    let says = SaysAs-from_IsReadAs line digest name shown reads in
    rw (says.name_is, says.shown_is, ap decoded says.digits) refl

-- ---- lists

-- a name is answered, and then a run
pub runs_answered : {a b : IoState} {kind : Kind} {name : List ℕ} (limits : Limits) (c : IoState)
    (result : Result Tally RunFault) (next : Answer → Script) (answer : Answer)
    → Answered kind name answer a b → Runs limits (next answer) b c result → Runs limits (Ask kind name next) a c result
runs_answered limits c (Ok tally) next answer answered run = ran_answered next answer answered run
runs_answered limits c (Err fault) next answer answered run = stopped_answered next answer answered run

-- lists of so many bytes
lists_small : (n k : ℕ) → n ≤ 2 ^ 30 → k ≤ 2 ^ 30 → n * (1 + k) ≤ 2 ^ 61
lists_small n k few small =
    let all : n * (1 + k) ≤ 2 ^ 30 * (1 + k) = mul-le-mul_right (1 + k) few in
    omega (arith, all, small)

-- the lists so far are checked
pub record ListsSoFar (options : CheckOptions) (all left : List Operand) (a b : IoState) (tally : Tally) : Type 0 where
  pub done : List Operand
  pub parts : all ≡ done ++ left
  pub ran : Ran (lists_script options done) a b tally
  pub few : counted tally ≤ 2 * (length done * (1 + options.largest))
  pub failures : b.failures ≤ a.failures + length done * (1 + options.largest)

pub lists_none : {options : CheckOptions} {all : List Operand} {a : IoState} {m : Tally} → m ≡ no_tally
    → ListsSoFar options all all a a m
lists_none {options} {all} {a} {m} is =
    record { done = []; parts = refl; ran = rw is (ran_done a); few = rw is (omega arith); failures = omega arith }

-- one more list is run
lists_next : (done : List Operand) (list : Operand) (k : ℕ)
    → length (done ++ list ∷ []) * (1 + k) ≡ length done * (1 + k) + (1 + k)
lists_next done list k =
    ap (λ n. n * (1 + k)) (length-append done (list ∷ []) ∙ add-one (length done)) ∙ suc-mul (length done) (1 + k)

pub lists_more : {options : CheckOptions} {all rest : List Operand} {a b c : IoState} {m n : Tally} (list : Operand)
    → ListsSoFar options all (list ∷ rest) a b m → Ran (list_operand_script options list) b c n
    → counted n ≤ 2 * (1 + options.largest) → c.failures ≤ b.failures + (1 + options.largest)
    → ListsSoFar options all rest a c (tally_sum m n)
lists_more {options} {all} {rest} {a} {b} {c} {m} {n} list so_far ran two count =
    let done = so_far.done in
    let script : lists_script options (done ++ list ∷ [])
    ≡ followed_by (lists_script options done) (list_operand_script options list) =
    ap in_turn (map-append (list_operand_script options) done (list ∷ []))
    ∙ in_turn-more (map (list_operand_script options) done) (list_operand_script options list) in
    let size = lists_next done list options.largest in
    record {
      done = done ++ list ∷ [];
      parts = so_far.parts ∙ sym (append_assoc done (list ∷ []) rest);
      ran = rw script (ran_then so_far.ran ran);
      few = omega (arith, size, so_far.few, two);
      failures = omega (arith, size, so_far.failures, count);
    }

-- a run stops at a list
pub lists_stopped : {options : CheckOptions} {all rest : List Operand} {a b c : IoState} {m : Tally} {limits : Limits}
    {fault : RunFault} (list : Operand)
    → ListsSoFar options all (list ∷ rest) a b m → Stopped limits (list_operand_script options list) b c fault
    → Stopped limits (lists_script options all) a c fault
lists_stopped {options} {all} {rest} {a} {b} {c} {m} {limits} {fault} list so_far stopped =
    let done = so_far.done in
    let later = lists_script options rest in
    let script : lists_script options all
    ≡ followed_by (lists_script options done) (followed_by (list_operand_script options list) later) =
    ap (lists_script options) so_far.parts
    ∙ ap in_turn (map-append (list_operand_script options) done (list ∷ rest))
    ∙ in_turn-append (map (list_operand_script options) done) (map (list_operand_script options) (list ∷ rest)) in
    rw script (ran_then_stopped so_far.ran (stopped_early later stopped))

-- how many are done, and one more
lists_within : {options : CheckOptions} {all rest : List Operand} {list : Operand} {a b : IoState} {m : Tally}
    (so_far : ListsSoFar options all (list ∷ rest) a b m)
    → (suc (length so_far.done) ≤ length all)
    × (length so_far.done * (1 + options.largest) + (1 + options.largest) ≤ length all * (1 + options.largest))
lists_within {options} {all} {rest} {list} {a} {b} {m} so_far =
    let done = so_far.done in
    let size : length all ≡ length done + suc (length rest) =
    ap (λ (xs : List Operand). length xs) so_far.parts ∙ length-append done (list ∷ rest) in
    let within : suc (length done) ≤ length all = omega (arith, size) in
    let more = suc-mul (length done) (1 + options.largest) in
    let all_fit : suc (length done) * (1 + options.largest) ≤ length all * (1 + options.largest) =
    mul-le-mul_right (1 + options.largest) within in
    (within, omega (arith, more, all_fit))

-- the failures of the next can be counted, and so can what it counts
pub lists_room : {options : CheckOptions} {all rest : List Operand} {list : Operand} {a b : IoState} {m : Tally}
    → CanCount a (length all * (1 + options.largest)) → ListsSoFar options all (list ∷ rest) a b m
    → CanCount b (1 + options.largest)
lists_room {options} {all} {rest} {list} {a} {b} {m} room so_far =
    let went = so_far.ran.went in
    record {
      shelf = omega (arith, room.shelf, so_far.failures, (lists_within so_far).1);
      out = omega (arith, room.out, went.out.count);
      err = omega (arith, room.err, went.err.count);
    }

pub lists_counted : {options : CheckOptions} {all rest : List Operand} {list : Operand} {a b : IoState} {m : Tally}
    → length all ≤ 2 ^ 30 → options.largest ≤ 2 ^ 30 → ListsSoFar options all (list ∷ rest) a b m
    → counted m ≤ 2 ^ 62
lists_counted {options} {all} {rest} {list} {a} {b} {m} few small so_far =
    let within = (lists_within so_far).0 in
    let done_few : length so_far.done ≤ 2 ^ 30 = omega (arith, within, few) in
    omega (arith, so_far.few, lists_small (length so_far.done) options.largest done_few small)

-- the shelf failed no more often than lists and their bytes allow, at a fault in one of them too
pub lists_failures : {options : CheckOptions} {all rest : List Operand} {list : Operand} {a b : IoState} {m : Tally}
    (failures : ℕ) → ListsSoFar options all (list ∷ rest) a b m → failures ≤ b.failures + (1 + options.largest)
    → failures ≤ a.failures + length all * (1 + options.largest)
lists_failures {options} {all} {rest} {list} {a} {b} {m} failures so_far count =
    omega (arith, count, so_far.failures, (lists_within so_far).1)

-- no list is left
pub lists_all : {options : CheckOptions} {all left : List Operand} {a b : IoState} {m : Tally} → left ≡ []
    → ListsSoFar options all left a b m
    → Ran (lists_script options all) a b m × (counted m ≤ 2 * (length all * (1 + options.largest)))
    × (b.failures ≤ a.failures + length all * (1 + options.largest))
lists_all {options} {all} {left} {a} {b} {m} none so_far =
    let same : all ≡ so_far.done =
    so_far.parts ∙ ap (λ xs. so_far.done ++ xs) none ∙ append-nil so_far.done in
    (rw same so_far.ran, rw same so_far.few, rw same so_far.failures)

-- ---- the task of a line that is read

pub line_tasks-read : (options : CheckOptions) (list : List ℕ) (number : ℕ) (text : List ℕ) (place : ℕ × ℕ)
    (places rest : List (ℕ × ℕ))
    (digest name shown : List ℕ)
    → places ≡ place ∷ rest → IsReadAs (line_at text place) digest name shown
    → line_tasks options list number (map (line_at text) places)
    ≡ Find name (λ found. verdict_report options shown (verdict_on digest found))
    ∷ line_tasks options list (number + 1) (map (line_at text) rest)
line_tasks-read options list number text place places rest digest name shown steps reads =
    let line = line_at text place in
    let tasks = line_tasks options list (number + 1) (map (line_at text) rest) in
    ap (λ (ps : List (ℕ × ℕ)). line_tasks options list number (map (line_at text) ps)) steps
    ∙ ap (λ (refusal : Option LineFault). line_task options list number line refusal ∷ tasks)
    (SaysAs-from_IsReadAs line digest name shown reads).accepted
    ∙ ap (λ (entry : Entry). Find entry.name
    (λ found. verdict_report options entry.shown (verdict_on entry.digest found)) ∷ tasks)
    (entry_of-read line digest name shown reads)
