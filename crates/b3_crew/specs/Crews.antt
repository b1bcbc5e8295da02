-- What a run has come to, and what is known of the items before it.
use Rattle.std.specs.Prelude.{◌≡◌, ⊤, ℕ, ◌+◌, ◌*◌, ◌^◌, ◌<◌, ◌≤◌, ◌++◌, ◌∷◌, [], Bool, true, List, Option, None, Some, Result, Ok, Err, IfSome, length, map, slice_get}
use Rattle.b3_core.specs.Tree.{top}
use Rattle.b3_core.specs.declared.modes.Mode.{Mode}
use Rattle.b3_hash.specs.Readers.{Reader}
use Rattle.b3_crew.specs.declared.entry.Finding.{Finding}
use Rattle.b3_io.specs.declared.items.Item.{Item}
use Rattle.b3_io.specs.declared.items.Item.TheVariants.{Say as SayItem, Ask as AskItem}
use Rattle.b3_io.specs.declared.message.Message.{Message}
use Rattle.b3_io.specs.declared.fault.RunFault.{RunFault}
use Rattle.b3_io.specs.declared.options.Limits.{Limits}
use Rattle.b3_io.specs.declared.output_range.OutputRange.{OutputRange}
use Rattle.b3_io.specs.declared.saying.Saying.{Saying}
use Rattle.b3_io.specs.declared.tally.Tally.{Tally}
use Rattle.b3_io.specs.Contents.{Contents, HasContent}
use Rattle.b3_io.specs.Digests.{digest_of}
use Rattle.b3_io.specs.Owing.{RanOwing}
use Rattle.b3_io.specs.Runs.{CanCount, IoState, Stopped}
use Rattle.b3_io.specs.Scripts.{AgreesWith, Answer, Given, Report, unread}
use Rattle.b3_io.specs.Scripts.Kind.{Hashed}
use Rattle.b3_io.specs.Tasks.{Task, counted, name_asked, report_of, request_report, task_of, tasks_script}
use Rattle.b3_io.specs.Tasks.Task.{Tell, Find}

-- what is to be said is what the digest of an answer to the name gives, and so many names were not read for it
pub record SaysAnswer (told : Option Contents) (sure : Bool) (range : OutputRange) (name : List ℕ)
    (says : Given (List ℕ) → Report) (message : Message) (failures : ℕ) : Type 0 where
  pub answer : Answer
  pub agrees : AgreesWith told sure Hashed name answer
  pub is : report_of message ≡ says (digest_of range answer)
  pub count : failures ≡ unread (answer ∷ [])

-- the message is what the digest of a content of the name gives
pub record SaysContent (told : Option Contents) (range : OutputRange) (name : List ℕ)
    (says : Given (List ℕ) → Report) (message : Message) : Type 0 where
  pub content : List ℕ
  pub has : HasContent told name content
  pub is : report_of message ≡ says (digest_of range (Ok content))

-- the finding is that of the name that the task asks for
abbrev pub SaysTask : IoState → OutputRange → Task → Finding → Type 0
SaysTask start range (Tell said) finding = ⊤
SaysTask start range (Find name says) finding =
    SaysAnswer start.told start.sure range name says finding.message finding.failures

-- what was found is right for the task with this number
abbrev pub IsFoundAt : IoState → OutputRange → List Task → ℕ → Option Finding → Type 0
IsFoundAt start range tasks number found = IfSome found (λ (finding : Finding).
    (task : Task) → slice_get tasks number ≡ Some task → SaysTask start range task finding)

-- the message is that of the item: it is what the item says, or what the digest of an answer to its name gives
abbrev pub IsMessageFor : IoState → OutputRange → Item → Message → ℕ → Type 0
IsMessageFor start range (SayItem said) message failures = (message ≡ said) × (failures ≡ 0)
IsMessageFor start range (AskItem request) message failures =
    SaysAnswer start.told start.sure range (name_asked request) (request_report request) message failures

-- the output is that of a content of the name
pub record HasOutput (told : Option Contents) (mode : Mode) (name : List ℕ) (output : Reader) : Type 0 where
  pub content : List ℕ
  pub has : HasContent told name content
  pub is : output ≡ record { node = top mode 0 content; place = 0 }

-- these tasks are left, of which the first has this number
pub record IsAt (tasks left : List Task) (number : ℕ) : Type 0 where
  pub done : List Task
  pub parts : tasks ≡ done ++ left
  pub count : length done ≡ number

-- the tasks so far are run, of whose texts one is still to be written, and each is counted at most twice
pub record SoFar (range : OutputRange) (all left : List Task) (a b : IoState) (owing : List ℕ) (tally : Tally) : Type 0 where
  pub done : List Task
  pub parts : all ≡ done ++ left
  pub ran : RanOwing (tasks_script range done) a b [] owing tally
  pub twice : counted tally ≤ 2 * length done
  pub failures : b.failures ≤ a.failures + length done

-- the same state, where the shelf has failed so many times more
abbrev pub also_failed : ℕ → IoState → IoState
also_failed count a = record a { failures = a.failures + count }

-- the items that were taken and not done, of which the first has the number `next`
pub record AheadState : Type 0 where
  pub next : ℕ
  pub items : List Item

-- the tasks of the items that were taken, and then those that are left
abbrev pub tasks_ahead : AheadState → List Task → List Task
tasks_ahead ahead tasks = map task_of ahead.items ++ tasks

-- the run has come to the items that are taken; the shelf has still to count the names that were not read beside others
pub record IsUnderWay (range : OutputRange) (tasks : List Task) (start : IoState) (rest : List Task) (fits : Bool)
    (ahead : AheadState) (now : IoState) (saying : Saying) : Type 0 where
  pub at : IsAt tasks (tasks_ahead ahead rest) ahead.next
  pub so_far : SoFar range tasks (tasks_ahead ahead rest) start (also_failed saying.uncounted now) saying.lines.items
      saying.tally
  pub fitting : fits ≡ true
  pub few : length tasks < 2 ^ 63
  pub countable : CanCount start (length tasks)

-- the run has come to an item, with these items behind it
pub record HasCome (range : OutputRange) (tasks : List Task) (start : IoState) (rest : List Task) (fits : Bool)
    (ahead : AheadState) (now : IoState) (saying : Saying) (item : Item) : Type 0 where
  pub at : IsAt tasks (tasks_ahead ahead rest) ahead.next
  pub so_far : SoFar range tasks (task_of item ∷ tasks_ahead ahead rest) start (also_failed saying.uncounted now)
      saying.lines.items saying.tally
  pub fitting : fits ≡ true

-- the run stops at a fault, after no more failures than it has tasks
pub record HasStopped (range : OutputRange) (tasks : List Task) (start now : IoState) (saying : Saying) (fault : RunFault)
    : Type 0 where
  pub stopped : (limits : Limits) → Stopped limits (tasks_script range tasks) start (also_failed saying.uncounted now) fault
  pub count : now.failures + saying.uncounted ≤ start.failures + length tasks

-- what was known is said: it came to an item that needs its turn, or to one of which nothing is known, or the run stops
abbrev pub IsSaid : {N : Type 0} → OutputRange → List Task → IoState → List Task → Bool → AheadState → IoState → Saying
    → (N → Item) → Result (Option N) RunFault → Type 0
IsSaid range tasks start rest fits ahead now saying item_of (Ok (Some next)) =
    HasCome range tasks start rest fits ahead now saying (item_of next)
IsSaid range tasks start rest fits ahead now saying item_of (Ok None) =
    IsUnderWay range tasks start rest fits ahead now saying
IsSaid range tasks start rest fits ahead now saying item_of (Err fault) =
    HasStopped range tasks start now saying fault

-- a crew said what was known: it came to an item that needs its turn, or to the end, or the run stops
abbrev pub IsLed : {N : Type 0} → OutputRange → List Task → IoState → List Task → Bool → AheadState → IoState → Saying
    → (N → Item) → Result (Option N) RunFault → Type 0
IsLed range tasks start rest fits ahead now saying item_of (Ok (Some next)) =
    HasCome range tasks start rest fits ahead now saying (item_of next)
IsLed range tasks start rest fits ahead now saying item_of (Ok None) =
    SoFar range tasks [] start (also_failed saying.uncounted now) saying.lines.items saying.tally
IsLed range tasks start rest fits ahead now saying item_of (Err fault) =
    HasStopped range tasks start now saying fault
