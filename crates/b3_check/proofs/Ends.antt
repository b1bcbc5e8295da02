-- What is said after a run, by what was counted in it, as a run of its own.
use Rattle.std.proofs.Common.{◌≡◌, ℕ, ◌+◌, ◌^◌, ◌<◌, ◌≤◌, ◌&&◌, ◌||◌, Bool, true, false, List, ◌∷◌, length, ◌∙◌, ap, arith, length-append, subst, sym}
use Rattle.std.specs.Prelude.{if◌then◌else◌}
use Rattle.b3_io.specs.declared.fault.RunFault.{RunFault}
use Rattle.b3_io.specs.declared.message.Message.{Message}
use Rattle.b3_io.specs.declared.options.CheckOptions.{CheckOptions}
use Rattle.b3_io.specs.declared.options.Limits.{Limits}
use Rattle.b3_io.specs.declared.output_range.OutputRange.{OutputRange}
use Rattle.b3_io.specs.declared.tally.Tally.{Tally}
use Rattle.b3_lines.specs.Lines.{lines_of}
use Rattle.b3_crew.specs.Crews.{SoFar}
use Rattle.b3_io.specs.Checks.{line_scripts, list_end_report}
use Rattle.b3_io.specs.Digests.{line_range}
use Rattle.b3_io.specs.Options.{check_limits}
use Rattle.b3_io.specs.Runs.{CanCount, IoState, Ran, Stopped}
use Rattle.b3_io.specs.Scripts.{Report, Script, in_turn, then_counted}
use Rattle.b3_io.specs.Scripts.Script.{Done, Say}
use Rattle.b3_io.specs.Tallies.{has_no_line, is_unverified, no_tally, one_list, tally_sum}
use Rattle.b3_io.specs.Tasks.{Found, Task, counted, line_tasks, tasks_script}
use Rattle.b3_io.proofs.CheckLemmas.{tasks_script-lines}
use Rattle.b3_io.proofs.RunLemmas.{ran_then_counted, ran_then_counted_stopped}
use Rattle.b3_io.proofs.ScriptLemmas.{none-tally_sum, tally_sum-none}

-- both go to their end
pub ran_ended : {s : Script} {a b c : IoState} {m n : Tally} (next : Tally → Script) → Ran s a b m → Ran (next m) b c n
    → Ran (then_counted s no_tally next) a c (tally_sum m n)
ran_ended {s} {a} {b} {c} {m} {n} next first second =
    ran_then_counted no_tally next first
    (subst (λ (t : Tally). Ran (next t) b c n) (sym (none-tally_sum m)) second)

-- nothing is counted in what is said
pub ran_ended_uncounted : {s : Script} {a b c : IoState} {m n : Tally} (says : Tally → Report)
    → (says m).tally ≡ no_tally → Ran s a b m → Ran (Say (says m) Done) b c n
    → Ran (then_counted s no_tally (λ tally. Say (says tally) Done)) a c m
ran_ended_uncounted {s} {a} {b} {c} {m} {n} says none first second =
    let next = λ (tally : Tally). Say (says tally) Done in
    let sum : tally_sum m n ≡ m =
    ap (λ (t : Tally). tally_sum m t) (second.counted ∙ tally_sum-none (says m).tally ∙ none) ∙ tally_sum-none m in
    subst (λ (t : Tally). Ran (then_counted s no_tally next) a c t) sum (ran_ended next first second)

-- a fault stops the second
pub stopped_ending : {limits : Limits} {s : Script} {a b c : IoState} {m : Tally} {fault : RunFault}
    (next : Tally → Script) → Ran s a b m → Stopped limits (next m) b c fault
    → Stopped limits (then_counted s no_tally next) a c fault
stopped_ending {limits} {s} {a} {b} {c} {m} {fault} next first second =
    ran_then_counted_stopped no_tally next first
    (subst (λ (t : Tally). Stopped limits (next t) b c fault) (sym (none-tally_sum m)) second)

-- a list that fails as a whole counts once
one_at_most : (fails : Bool) → counted (if fails then one_list else no_tally) ≤ 1
one_at_most true = omega arith
one_at_most false = omega arith

pub counted-list_end : (options : CheckOptions) (list : List ℕ) (tally : Tally)
    → counted (list_end_report options list tally).tally ≤ 1
counted-list_end options list tally =
    one_at_most ((options.ignore_missing && is_unverified tally) || (options.strict && has_no_line tally))

-- what two tallies count fits together
pub both_fit : (m n : Tally) → counted m + counted n < 2 ^ 64 → record {
  ok : m.ok + n.ok < 2 ^ 64;
  failed : m.failed + n.failed < 2 ^ 64;
  lists : m.lists + n.lists < 2 ^ 64;
  differing : m.differing + n.differing < 2 ^ 64;
  malformed : m.malformed + n.malformed < 2 ^ 64;
  missing : m.missing + n.missing < 2 ^ 64;
}
both_fit m n room = record {
  ok = omega (arith, room);
  failed = omega (arith, room);
  lists = omega (arith, room);
  differing = omega (arith, room);
  malformed = omega (arith, room);
  missing = omega (arith, room);
}

-- what is found can be said
pub found_room : {script : Script} {a b : IoState} {message : Message} → CanCount a 1 → Found script a b message
    → b.failures ≤ a.failures + 1 → CanCount b 0
found_room {script} {a} {b} {message} room found count = record {
  shelf = omega (arith, room.shelf, count);
  out = omega (arith, room.out, found.went.out.count);
  err = omega (arith, room.err, found.went.err.count);
}

-- what is said of a task is counted
pub so_far_counts : {range : OutputRange} {all rest : List Task} {task : Task} {a b : IoState} {v : List ℕ} {m : Tally}
    (n : Tally) → length all < 2 ^ 63 → SoFar range all (task ∷ rest) a b v m → counted n ≤ 2
    → counted m + counted n < 2 ^ 64
so_far_counts {range} {all} {rest} {task} {a} {b} {v} {m} n few so_far two = omega (
  arith,
  ap (λ (xs : List Task). length xs) so_far.parts,
  length-append so_far.done (task ∷ rest),
  so_far.twice,
  few,
  two,
)

-- the script of the lines of a list
lines_are : (options : CheckOptions) (list : List ℕ) {text given : List ℕ} {range : OutputRange} {tasks : List Task}
    → tasks ≡ line_tasks options list 1 (lines_of given) → given ≡ text → range ≡ line_range
    → tasks_script range tasks ≡ in_turn (line_scripts options list 1 (lines_of text))
lines_are options list {text} {given} {range} {tasks} are same hash =
    rw (are, same, hash) (tasks_script-lines options list 1 (lines_of text))

pub ran_lines : (options : CheckOptions) (list : List ℕ) {text given : List ℕ} {range : OutputRange} {tasks : List Task}
    {a b : IoState} {m : Tally} → tasks ≡ line_tasks options list 1 (lines_of given) → given ≡ text → range ≡ line_range
    → Ran (tasks_script range tasks) a b m → Ran (in_turn (line_scripts options list 1 (lines_of text))) a b m
ran_lines options list {text} {given} {range} {tasks} {a} {b} {m} are same hash ran =
    subst (λ s. Ran s a b m) (lines_are options list are same hash) ran

pub stopped_lines : (options : CheckOptions) (list : List ℕ) {text given : List ℕ} {range : OutputRange}
    {tasks : List Task} {limits : Limits} {a b : IoState} {fault : RunFault}
    → tasks ≡ line_tasks options list 1 (lines_of given) → given ≡ text → range ≡ line_range
    → limits ≡ check_limits options → Stopped limits (tasks_script range tasks) a b fault
    → Stopped (check_limits options) (in_turn (line_scripts options list 1 (lines_of text))) a b fault
stopped_lines options list {text} {given} {range} {tasks} {limits} {a} {b} {fault} are same hash most stopped =
    subst (λ s. Stopped (check_limits options) s a b fault) (lines_are options list are same hash)
    (subst (λ l. Stopped l (tasks_script range tasks) a b fault) most stopped)
