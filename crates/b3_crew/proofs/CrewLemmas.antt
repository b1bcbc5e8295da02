-- Items that are taken one by one, done one by one, and found by whom it may be.
use Rattle.std.proofs.Common.{◌≡◌, ◌⊎◌, ℕ, ◌+◌, ◌^◌, ◌<◌, ◌≤◌, Bool, true, List, [], ◌∷◌, ◌++◌, length, map, Option, None, Some, Result, Ok, Err, IfNone, IfOk, IfSome, slice_get, refl, sym, ◌∙◌, ap, subst, append_assoc, length-append, arith}
use Rattle.std.proofs.lemmas.List.{length-map, map-append, nil_from_length}
use Rattle.b3_io.specs.declared.fault.RunFault.{RunFault}
use Rattle.b3_io.specs.declared.fault.RunFault.TheVariants.{WriteFault, Memory}
use Rattle.b3_io.specs.declared.items.Item.{Item}
use Rattle.b3_io.specs.declared.items.Item.TheVariants.{Say as SayItem, Ask as AskItem}
use Rattle.b3_io.specs.declared.message.Message.{Message}
use Rattle.b3_io.specs.declared.options.Limits.{Limits}
use Rattle.b3_io.specs.declared.output_range.OutputRange.{OutputRange}
use Rattle.b3_io.specs.declared.saying.Saying.{Saying}
use Rattle.b3_io.specs.declared.shelf.NoContent.{NoContent}
use Rattle.b3_io.specs.declared.tally.Tally.{Tally}
use Rattle.b3_io.specs.Contents.{Contents, LacksContent}
use Rattle.b3_crew.specs.Crews.{AheadState, HasCome, HasStopped, IsAt, IsLed, IsMessageFor, IsUnderWay, SaysAnswer, SaysContent, SoFar, also_failed, tasks_ahead}
use Rattle.b3_io.specs.Owing.{WentOwing, on_out}
use Rattle.b3_io.specs.Runs.{Broke, CanCount, IoState, Stopped}
use Rattle.b3_io.specs.Scripts.{Answer, Given, Report, joined, unread}
use Rattle.b3_io.specs.Scripts.Kind.{Hashed}
use Rattle.b3_io.specs.Tallies.{tally_sum}
use Rattle.b3_io.specs.Tasks.{Found, IsFitItem, Task, counted, report_of, task_of, task_script, tasks_script}
use Rattle.b3_crew.proofs.OwingLemmas.{owing_found, stopped_found}
use Rattle.b3_io.proofs.ReadLemmas.{agrees_lacking}
use Rattle.b3_io.proofs.RunLemmas.{went_nowhere}
use Rattle.b3_io.proofs.ScriptLemmas.{joined-nothing}
use Rattle.b3_crew.proofs.TaskLemmas.{agrees_known, counted-request_report, found_told, so_far_least, so_far_least_next, so_far_more, so_far_refused, so_far_stopped}

-- the element behind a list
slice_get-behind : {A : Type 0} (xs : List A) (x : A) (ys : List A) → slice_get (xs ++ x ∷ ys) (length xs) ≡ Some x
slice_get-behind [] x ys = refl
slice_get-behind (y ∷ xs) x ys = slice_get-behind xs x ys

-- the task that comes next
pub at_task : {tasks left : List Task} {number : ℕ} (task : Task) → IsAt tasks (task ∷ left) number
    → slice_get tasks number ≡ Some task
at_task {tasks} {left} {number} task at =
    rw (at.parts, sym at.count) (slice_get-behind at.done task left)

-- those behind the first ones
pub at_behind : {tasks : List Task} {number : ℕ} (first left : List Task) → IsAt tasks (first ++ left) number
    → IsAt tasks left (number + length first)
at_behind {tasks} {number} first left at = record {
  done = at.done ++ first;
  parts = at.parts ∙ sym (append_assoc at.done first left);
  count = omega (arith, length-append at.done first, at.count);
}

pub at_next : {tasks left : List Task} {number : ℕ} (task : Task) → IsAt tasks (task ∷ left) number
    → IsAt tasks left (number + 1)
at_next {tasks} {left} {number} task at = at_behind (task ∷ []) left at

-- a number is below that of all tasks
pub at_room : {tasks left : List Task} {number : ℕ} (task : Task) → IsAt tasks (task ∷ left) number
    → number < length tasks
at_room {tasks} {left} {number} task at =
    omega (arith, ap (λ (xs : List Task). length xs) at.parts, length-append at.done (task ∷ left), at.count)

pub at_within : {tasks left : List Task} {number : ℕ} → IsAt tasks left number → number ≤ length tasks
at_within {tasks} {left} {number} at =
    omega (arith, ap (λ (xs : List Task). length xs) at.parts, length-append at.done left, at.count)

-- one more item is taken
pub taken_more : {rest left : List Task} (item : Item) (items : List Item) → left ≡ task_of item ∷ rest
    → map task_of (items ++ item ∷ []) ++ rest ≡ map task_of items ++ left
taken_more {rest} {left} item items is =
    ap (λ (ts : List Task). ts ++ rest) (map-append task_of items (item ∷ []))
    ∙ append_assoc (map task_of items) (task_of item ∷ []) rest
    ∙ ap (λ (ts : List Task). map task_of items ++ ts) (sym is)

-- the task of an item that is taken next
pub at_taken : {tasks left rest : List Task} {number : ℕ} (item : Item) (items : List Item) → left ≡ task_of item ∷ rest
    → IsAt tasks (map task_of items ++ left) number
    → (slice_get tasks (number + length items) ≡ Some (task_of item)) × (number + length items < length tasks)
at_taken {tasks} {left} {rest} {number} item items is at =
    let behind : IsAt tasks (task_of item ∷ rest) (number + length items) =
    subst (λ n. IsAt tasks (task_of item ∷ rest) (number + n)) (length-map items task_of)
    (at_behind (map task_of items) (task_of item ∷ rest)
    (subst (λ (ts : List Task). IsAt tasks (map task_of items ++ ts) number) is at)) in
    (at_task (task_of item) behind, at_room (task_of item) behind)

-- ---- what was found

-- an answer that is a content
pub says_content : {told : Option Contents} {sure : Bool} {range : OutputRange} {name : List ℕ}
    {says : Given (List ℕ) → Report} {message : Message}
    → SaysContent told range name says message → SaysAnswer told sure range name says message 0
says_content {told} {sure} {range} {name} says =
    record { answer = Ok says.content; agrees = agrees_known told sure name says.content says.has; is = says.is; count = refl }

-- an answer that there is none
pub says_lacking : {told : Option Contents} {sure : Bool} {range : OutputRange} {name : List ℕ}
    {says : Given (List ℕ) → Report} {message : Message} (why : NoContent) → LacksContent told sure name why
    → report_of message ≡ says (Err why) → SaysAnswer told sure range name says message 1
says_lacking {told} {sure} {range} {name} why lacks is =
    record { answer = Err why; agrees = agrees_lacking told sure Hashed name why lacks; is = is; count = refl }

-- one name is not read, or none
unread-one : (answer : Answer) → unread (answer ∷ []) ≤ 1
unread-one (Ok content) = omega arith
unread-one (Err why) = omega arith

pub failures-one : (start : IoState) (range : OutputRange) (item : Item) (message : Message) (failures : ℕ)
    → IsMessageFor start range item message failures → failures ≤ 1
failures-one start range (SayItem said) message failures is = omega (arith, is.1)
failures-one start range (AskItem request) message failures is = omega (arith, is.count, unread-one is.answer)

-- what is said of an item is counted at most twice
pub counted-message : (start : IoState) (range : OutputRange) (item : Item) (message : Message) (failures : ℕ)
    → IsFitItem range.length item → IsMessageFor start range item message failures → counted message.tally ≤ 2
counted-message start range (SayItem said) message failures fit is = rw is.0 fit
counted-message start range (AskItem request) message failures fit is =
    rw (ap (λ q. q.tally) is.is) (counted-request_report request _)

-- what is to be said of an item is found, where the shelf counts later
pub found_for_item : {message : Message} (failures : ℕ) (start : IoState) (range : OutputRange) (a : IoState) (uncounted : ℕ)
    (item : Item) → a.told ≡ start.told → a.sure ≡ start.sure → IsMessageFor start range item message failures
    → Found (task_script range (task_of item)) (also_failed uncounted a) (also_failed (uncounted + failures) a) message
found_for_item {message} failures start range a uncounted (SayItem said) told sure is =
    rw is.0 (record {
      answers = [];
      agree = tt;
      complete = tt;
      went = record {
        heard = record { told = refl; sure = refl; failures = omega (arith, is.1) };
        out = (went_nowhere a).out;
        err = (went_nowhere a).err;
      };
      is = sym (joined-nothing (report_of said));
    })
found_for_item {message} failures start range a uncounted (AskItem request) told sure is = record {
  answers = is.answer ∷ [];
  agree = (rw (told, sure) is.agrees, tt);
  complete = tt;
  went = record {
    heard = record { told = refl; sure = refl; failures = omega (arith, is.count) };
    out = (went_nowhere a).out;
    err = (went_nowhere a).err;
  };
  is = is.is ∙ sym (joined-nothing _);
}

-- an item that says something by itself
pub found_said : (range : OutputRange) (a : IoState) (item : Item) (message : Message) → item ≡ SayItem message
    → IsFitItem range.length item
    → Found (task_script range (task_of item)) a a message × (counted message.tally ≤ 2)
found_said range a item message is fit = rw is (found_told a message, rw is at fit)

-- ---- failures that are counted later

pub also_failed-none : (a : IoState) → also_failed 0 a ≡ a
also_failed-none a = ap (λ n. record a { failures = n }) (omega arith)

went_later : {a b : IoState} {owed owing : List ℕ} {said : Report} (count : ℕ) → WentOwing a b owed owing [] said
    → WentOwing (also_failed count a) (also_failed count b) owed owing [] said
went_later count went = record {
  written = went.written;
  text = went.text;
  went = record {
    heard = record {
      told = went.went.heard.told;
      sure = went.went.heard.sure;
      failures = omega (arith, went.went.heard.failures);
    };
    out = went.went.out;
    err = went.went.err;
  };
}

broke_later : {a b : IoState} {said : Report} {fault : RunFault} (count : ℕ) → Broke a b [] said fault
    → Broke (also_failed count a) (also_failed count b) [] said fault
broke_later count broke = record {
  heard = record {
    told = broke.heard.told;
    sure = broke.heard.sure;
    failures = omega (arith, broke.heard.failures);
  };
  out = broke.out;
  err = broke.err;
  sinks = broke.sinks;
}

-- ---- a run under way

-- items are taken
pub under_way_taken : {range : OutputRange} {tasks rest left : List Task} {start now : IoState} {fits more : Bool}
    {s t : AheadState} {saying : Saying}
    → IsUnderWay range tasks start rest fits s now saying → tasks_ahead t left ≡ tasks_ahead s rest
    → t.next ≡ s.next → more ≡ true
    → IsUnderWay range tasks start left more t now saying
under_way_taken before same next more = record {
  at = rw (same, next) before.at;
  so_far = rw same before.so_far;
  fitting = more;
  few = before.few;
  countable = before.countable;
}

pub come_taken : {range : OutputRange} {tasks rest left : List Task} {start now : IoState} {fits more : Bool}
    {s t : AheadState} {saying : Saying} {item : Item}
    → HasCome range tasks start rest fits s now saying item → tasks_ahead t left ≡ tasks_ahead s rest
    → t.next ≡ s.next → more ≡ true
    → HasCome range tasks start left more t now saying item
come_taken came same next more = record {
  at = rw (same, next) came.at;
  so_far = rw same came.so_far;
  fitting = more;
}

-- no item is left
pub under_way_over : {range : OutputRange} {tasks left : List Task} {start now : IoState} {fits : Bool} {s : AheadState}
    {saying : Saying} → IsUnderWay range tasks start left fits s now saying → length s.items ≡ 0
    → (s.items ≡ [] → left ≡ [])
    → SoFar range tasks [] start (also_failed saying.uncounted now) saying.lines.items saying.tally
under_way_over {range} {tasks} {left} {start} {now} {fits} {s} {saying} before empty all =
    let none : s.items ≡ [] = nil_from_length s.items empty in
    let over : tasks_ahead s left ≡ [] = rw (none, all none) refl in
    rw over at before.so_far

-- the run comes to an item
pub come : {range : OutputRange} {tasks left : List Task} {start now : IoState} {fits : Bool} {s u : AheadState}
    {saying : Saying} (item : Item)
    → IsUnderWay range tasks start left fits s now saying → s.items ≡ item ∷ u.items → u.next ≡ s.next + 1
    → HasCome range tasks start left fits u now saying item
come {range} {tasks} {left} {start} {now} {fits} {s} {u} {saying} item before some number =
    let parts : tasks_ahead s left ≡ task_of item ∷ tasks_ahead u left =
    ap (λ (xs : List Item). map task_of xs ++ left) some in
    record {
      at = subst (λ n. IsAt tasks (tasks_ahead u left) n) (sym number)
          (at_next (task_of item) (subst (λ (ts : List Task). IsAt tasks ts s.next) parts before.at));
      so_far = subst (λ (ts : List Task). SoFar range tasks ts start (also_failed saying.uncounted now) saying.lines.items
          saying.tally) parts before.so_far;
      fitting = before.fitting;
    }

-- an item's turn comes after that of an earlier one
pub turn_after : {N : Type 0} {said shown : AheadState} (first now : ℕ) (result : Result (Option N) RunFault)
    → first ≤ said.next → shown ≡ said → IfOk result (λ came. IfSome came (λ _. shown.next < now))
    → IfOk result (λ came. IfSome came (λ _. first < now))
turn_after first now (Ok (Some entry)) further same turn = omega (arith, ap (λ (ahead : AheadState). ahead.next) same)
turn_after first now (Ok None) further same turn = tt
turn_after first now (Err fault) further same turn = tt

-- how many are done before an item
come_length : {range : OutputRange} {tasks left : List Task} {start now : IoState} {fits : Bool} {u : AheadState}
    {saying : Saying} (item : Item) (came : HasCome range tasks start left fits u now saying item)
    → length came.so_far.done < length tasks
come_length {range} {tasks} {left} {start} {now} {fits} {u} item came = omega (
  arith,
  ap (λ (xs : List Task). length xs) came.so_far.parts,
  length-append came.so_far.done (task_of item ∷ tasks_ahead u left),
)

-- the counts of a further message fit
pub come_counts : {range : OutputRange} {tasks left : List Task} {start now : IoState} {fits : Bool} {u : AheadState}
    {saying : Saying} (item : Item) (more : Tally) → HasCome range tasks start left fits u now saying item
    → length tasks < 2 ^ 63 → counted more ≤ 2 → counted saying.tally + counted more < 2 ^ 64
come_counts item more came few two = omega (arith, come_length item came, came.so_far.twice, few, two)

-- a further failure fits
pub come_failures : {range : OutputRange} {tasks left : List Task} {start now : IoState} {fits : Bool} {u : AheadState}
    {saying : Saying} (item : Item) (failures : ℕ) → HasCome range tasks start left fits u now saying item
    → CanCount start (length tasks) → failures ≤ 1 → saying.uncounted + failures < 2 ^ 64
come_failures item failures came countable one =
    omega (arith, come_length item came, came.so_far.failures, countable.shelf, one)

-- the sinks can count what fails
pub come_room : {range : OutputRange} {tasks left : List Task} {start now : IoState} {fits : Bool} {u : AheadState}
    {saying : Saying} (item : Item) → HasCome range tasks start left fits u now saying item
    → CanCount start (length tasks) → CanCount now 0
come_room item came countable =
    let went = came.so_far.ran.went.went in
    record {
      shelf = omega (arith, come_length item came, came.so_far.failures, countable.shelf);
      out = omega (arith, countable.out, went.out.count);
      err = omega (arith, countable.err, went.err.count);
    }

-- what is to be said of an item is said
pub under_way_said : {range : OutputRange} {tasks left : List Task} {start now after : IoState} {fits : Bool}
    {u : AheadState} {saying said : Saying} {message : Message} {failures : ℕ} (item : Item)
    → HasCome range tasks start left fits u now saying item → length tasks < 2 ^ 63 → CanCount start (length tasks)
    → Found (task_script range (task_of item)) (also_failed saying.uncounted now)
    (also_failed (saying.uncounted + failures) now) message
    → counted message.tally ≤ 2 → failures ≤ 1
    → WentOwing now after saying.lines.items said.lines.items [] (report_of message)
    → said.tally ≡ tally_sum saying.tally message.tally → said.uncounted ≡ saying.uncounted + failures
    → IsUnderWay range tasks start left fits u after said
under_way_said {range} {tasks} {left} {start} {now} {after} {fits} {u} {saying} {said} {message} {failures} item came few
    countable found two one went tally uncounted = record {
      at = came.at;
      so_far = rw (tally, uncounted) (so_far_more (task_of item) came.so_far
          (owing_found found (went_later (saying.uncounted + failures) went)) two
          (omega (arith, went.went.heard.failures, one)));
      fitting = came.fitting;
      few = few;
      countable = countable;
    }

-- the run stops before an item
pub has_refused : {range : OutputRange} {tasks left : List Task} {start now : IoState} {fits : Bool} {s : AheadState}
    {saying : Saying} {fault : RunFault} → IsUnderWay range tasks start left fits s now saying
    → fault ≡ Memory → HasStopped range tasks start now saying fault
has_refused {range} {tasks} {left} {start} {now} {fits} {s} before refused = record {
  stopped = λ limits. so_far_refused before.so_far refused;
  count = so_far_least before.so_far;
}

-- the run stops at an item
pub come_refused : {range : OutputRange} {tasks left : List Task} {start now : IoState} {fits : Bool} {u : AheadState}
    {saying : Saying} {fault : RunFault} (item : Item) → HasCome range tasks start left fits u now saying item
    → fault ≡ Memory → HasStopped range tasks start now saying fault
come_refused item came refused = record {
  stopped = λ limits. so_far_refused came.so_far refused;
  count = so_far_least came.so_far;
}

-- the run stops in the saying of an item
pub has_stopped : {range : OutputRange} {tasks left : List Task} {start now after : IoState} {fits : Bool} {u : AheadState}
    {saying said : Saying} {message : Message} {failures : ℕ} {fault : RunFault} (item : Item)
    → HasCome range tasks start left fits u now saying item
    → Found (task_script range (task_of item)) (also_failed saying.uncounted now)
    (also_failed (saying.uncounted + failures) now) message
    → failures ≤ 1
    → Broke now after [] (joined (on_out saying.lines.items) (report_of message)) fault
    → (fault ≡ WriteFault) ⊎ (fault ≡ Memory) → said.uncounted ≡ saying.uncounted + failures
    → HasStopped range tasks start after said fault
has_stopped {range} {tasks} {left} {start} {now} {after} {fits} {u} {saying} {said} {message} {failures} {fault} item came
    found one broke known uncounted = record {
      stopped = λ limits. rw uncounted (so_far_stopped (task_of item) came.so_far
          (stopped_found found (broke_later (saying.uncounted + failures) broke) known));
      count = omega (
        arith,
        uncounted,
        so_far_least_next (now.failures + saying.uncounted + failures) came.so_far
            (omega (arith, one)),
        broke.heard.failures,
      );
    }

-- ---- what the shelf has counted

-- a state in which the shelf has counted what it had still to count
pub counted_state : (a b : IoState) (count : ℕ) → b.told ≡ a.told → b.sure ≡ a.sure → b.failures ≡ a.failures + count
    → b.out ≡ a.out → b.err ≡ a.err → b ≡ also_failed count a
counted_state a b count told sure failures out err =
    λ i. record { told = told i; sure = sure i; failures = failures i; out = out i; err = err i }

pub so_far_counted : {range : OutputRange} {tasks left : List Task} {start now : IoState} {owing : List ℕ} {tally : Tally}
    {count : ℕ} → count ≡ 0 → SoFar range tasks left start (also_failed count now) owing tally
    → SoFar range tasks left start now owing tally
so_far_counted {range} {tasks} {left} {start} {now} {owing} {tally} {count} none so_far =
    subst (λ a. SoFar range tasks left start a owing tally) (ap (λ n. also_failed n now) none ∙ also_failed-none now) so_far

pub so_far_uncounted : {range : OutputRange} {tasks left : List Task} {start now : IoState} {owing : List ℕ} {tally : Tally}
    {count : ℕ} → count ≡ 0 → SoFar range tasks left start now owing tally
    → SoFar range tasks left start (also_failed count now) owing tally
so_far_uncounted {range} {tasks} {left} {start} {now} {owing} {tally} {count} none so_far =
    subst (λ a. SoFar range tasks left start a owing tally) (sym (ap (λ n. also_failed n now) none ∙ also_failed-none now)) so_far

-- the first item is taken, if there is one
pub led_popped : {N : Type 0} {range : OutputRange} {tasks left : List Task} {start now : IoState} {fits : Bool}
    {s : AheadState} {saying : Saying} (u : AheadState) (item_of : N → Item) (popped : Option N)
    → IsUnderWay range tasks start left fits s now saying → (s.items ≡ [] → left ≡ [])
    → IfNone popped (s.items ≡ []) → IfSome popped (λ entry. s.items ≡ item_of entry ∷ u.items)
    → IfSome popped (λ entry. u.next ≡ s.next + 1)
    → IsLed range tasks start left fits u now saying item_of (Ok popped)
led_popped {N} {range} {tasks} {left} {start} {now} {fits} {s} {saying} u item_of None before all none some number =
    let over : tasks_ahead s left ≡ [] = rw (none, all none) refl in
    subst (λ (ts : List Task). SoFar range tasks ts start (also_failed saying.uncounted now) saying.lines.items saying.tally)
    over before.so_far
led_popped u item_of (Some entry) before all none some number = come (item_of entry) before some number

-- what the shelf has still to count fits
so_far_fits : {range : OutputRange} {tasks left : List Task} {start now : IoState} {owing : List ℕ} {tally : Tally}
    → SoFar range tasks left start now owing tally → CanCount start (length tasks) → now.failures < 2 ^ 64
so_far_fits so_far countable = omega (arith, so_far_least so_far, countable.shelf)

pub led_fits : {N : Type 0} (range : OutputRange) (tasks left : List Task) (start now : IoState) (fits : Bool)
    (u : AheadState) (saying : Saying) (item_of : N → Item) (result : Result (Option N) RunFault)
    → IsLed range tasks start left fits u now saying item_of result → CanCount start (length tasks)
    → now.failures + saying.uncounted < 2 ^ 64
led_fits range tasks left start now fits u saying item_of (Ok (Some next)) led countable = so_far_fits led.so_far countable
led_fits range tasks left start now fits u saying item_of (Ok None) led countable = so_far_fits led countable
led_fits range tasks left start now fits u saying item_of (Err fault) led countable =
    omega (arith, led.count, countable.shelf)

-- the shelf has counted
pub led_counted : {N : Type 0} (range : OutputRange) (tasks left : List Task) (start now : IoState) (fits : Bool)
    (u : AheadState) (saying : Saying) (item_of : N → Item) (result : Result (Option N) RunFault) (after : IoState)
    → IsLed range tasks start left fits u now saying item_of result → after ≡ also_failed saying.uncounted now
    → IsLed range tasks start left fits u after (record saying { uncounted = 0 }) item_of result
led_counted range tasks left start now fits u saying item_of (Ok (Some next)) after led is = record {
  at = led.at;
  so_far = so_far_uncounted refl (rw is led.so_far);
  fitting = led.fitting;
}
led_counted range tasks left start now fits u saying item_of (Ok None) after led is = so_far_uncounted refl (rw is led)
led_counted range tasks left start now fits u saying item_of (Err fault) after led is = record {
  stopped = λ limits. rw (also_failed-none after, is) (led.stopped limits);
  count = omega (arith, led.count, ap (λ (a : IoState). a.failures) is);
}

pub stopped_counted : {range : OutputRange} {tasks : List Task} {start now : IoState} {saying : Saying} {fault : RunFault}
    → saying.uncounted ≡ 0 → HasStopped range tasks start now saying fault → (limits : Limits)
    → Stopped limits (tasks_script range tasks) start now fault
stopped_counted {range} {tasks} {start} {now} {saying} {fault} none has limits =
    subst (λ a. Stopped limits (tasks_script range tasks) start a fault)
    (ap (λ n. also_failed n now) none ∙ also_failed-none now) (has.stopped limits)
