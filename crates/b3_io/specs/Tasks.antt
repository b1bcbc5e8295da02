-- What a run does, task after task: no task depends on the answer to another.
use Rattle.std.specs.Prelude.{◌≡◌, ℕ, ◌+◌, ◌≤◌, ◌&&◌, false, true, if◌then◌else◌, List, [], ◌∷◌, Option, None, Some, Result, Ok, Err, codes, length, map}
use Rattle.std.specs.Borrow.{Bor}
use Rattle.std.specs.String.{string_bytes}
use Rattle.b3_lines.specs.Reading.{first_refusal}
use Rattle.b3_lines.specs.declared.fault.LineFault.{LineFault}
use Rattle.b3_io.specs.declared.fault.RunFault.{RunFault}
use Rattle.b3_io.specs.declared.fault.RunFault.TheVariants.{WriteFault}
use Rattle.b3_io.specs.declared.output_range.OutputRange.{OutputRange}
use Rattle.b3_io.specs.declared.items.Item.{Item}
use Rattle.b3_io.specs.declared.items.Item.TheVariants.{Say as SayItem, Ask as AskItem}
use Rattle.b3_io.specs.declared.items.Request.{Request}
use Rattle.b3_io.specs.declared.items.Request.TheVariants.{Line, Name}
use Rattle.b3_io.specs.declared.options.CheckOptions.{CheckOptions}
use Rattle.b3_io.specs.declared.options.Form.{Form}
use Rattle.b3_io.specs.declared.options.Limits.{Limits}
use Rattle.b3_io.specs.declared.message.Message.{Message}
use Rattle.b3_io.specs.declared.tally.Tally.{Tally}
use Rattle.b3_io.specs.Checks.{entry_of, refused_report, verdict_on, verdict_report}
use Rattle.b3_io.specs.Digests.{digest_script}
use Rattle.b3_io.specs.Runs.{Broke, IoState, Stopped, Went}
use Rattle.b3_io.specs.Operands.{Operand}
use Rattle.b3_io.specs.Operands.Operand.{Text, NotText}
use Rattle.b3_io.specs.Scripts.{Answer, AnswersFirst, Given, IsComplete, Report, Script, given_map, in_turn, nothing, report}
use Rattle.b3_io.specs.Scripts.Script.{Done, Say}
use Rattle.b3_io.specs.Sums.{failed_report, is_bad_name, name_report, not_text, shows_name}

-- something is said, or a name is asked for and what its digest gives is said
pub data Task : Type 0 where
  Tell : Report → Task
  Find : List ℕ → (Given (List ℕ) → Report) → Task

-- what a task says or asks
abbrev pub task_script : OutputRange → Task → Script
task_script range (Tell said) = Say said Done
task_script range (Find name says) = digest_script range name says

abbrev pub tasks_script : OutputRange → List Task → Script
tasks_script range tasks = in_turn (map (task_script range) tasks)

-- the report that is said
abbrev pub report_of : Message → Report
report_of said = record { out = said.out.items; err = said.err.items; tally = said.tally }

-- the name that is asked for
abbrev pub name_asked : Request → List ℕ
name_asked (Name form name) = name.now
name_asked (Line options line) = string_bytes line.name

-- what its digest gives
abbrev pub request_report : Request → Given (List ℕ) → Report
request_report (Name form name) digest = name_report form name.now digest
request_report (Line options line) digest =
    verdict_report options (string_bytes line.shown) (verdict_on line.digest digest)

-- a name that is shown can be shown, and a digest that is compared has the length of a line's
abbrev pub IsFit : ℕ → Request → Type 0
IsFit len (Name form name) = shows_name form ≡ true → is_bad_name name.now ≡ false
IsFit len (Line options line) = len ≡ 32

-- the task of an item
abbrev pub task_of : Item → Task
task_of (SayItem said) = Tell (report_of said)
task_of (AskItem request) = Find (name_asked request) (request_report request)

-- the sum of all counts, in which a failed line may stand twice
abbrev pub counted : Tally → ℕ
counted tally = tally.ok + tally.failed + tally.lists + tally.differing + tally.malformed + tally.missing

-- what is said is one line or name, or a name is asked for that is fit
abbrev pub IsFitItem : ℕ → Item → Type 0
IsFitItem len (SayItem said) = counted said.tally ≤ 2
IsFitItem len (AskItem request) = IsFit len request

-- a report is said, or a sink fails
abbrev pub Says : {T : Type 0} → Report → IoState → IoState → Result T RunFault → Type 0
Says said before after (Ok _) = Went before after [] said
Says said before after (Err fault) = Broke before after [] said fault × (fault ≡ WriteFault)

-- the bytes that are lent, or why there are none
abbrev pub bytes_of : Given (Bor (List ℕ)) → Given (List ℕ)
bytes_of lent = given_map (λ (bytes : Bor (List ℕ)). bytes.now) lent

-- how long a digest is; one that is not there is as long as any
abbrev pub len_of : Given (Bor (List ℕ)) → ℕ
len_of (Err why) = 32
len_of (Ok digest) = length digest.now

-- the task of a line
abbrev pub line_task : CheckOptions → List ℕ → ℕ → List ℕ → Option LineFault → Task
line_task options list number line (Some fault) = Tell (refused_report options list number fault)
line_task options list number line None =
    let entry = entry_of line in
    Find entry.name (λ found. verdict_report options entry.shown (verdict_on entry.digest found))

-- the tasks of lines, of which the first has this number
abbrev pub line_tasks : CheckOptions → List ℕ → ℕ → List (List ℕ) → List Task
line_tasks options list number [] = []
line_tasks options list number (line ∷ lines) =
    line_task options list number line (first_refusal line) ∷ line_tasks options list (number + 1) lines

-- the task of a name
abbrev pub name_task : Form → List ℕ → Task
name_task form name =
    if shows_name form && is_bad_name name then Tell (failed_report name (codes "bad name"))
    else Find name (name_report form name)

-- the task of an operand
abbrev pub operand_task : Form → Operand → Task
operand_task form (Text name) = name_task form name
operand_task form (NotText list number) = Tell (failed_report list (not_text number))

-- the shelf gave the answers that a script asks for, and its report over them is to be said
pub record Found (script : Script) (before after : IoState) (message : Message) : Type 0 where
  pub answers : List Answer
  pub agree : AnswersFirst before.told before.sure script answers
  pub complete : IsComplete script answers
  pub went : Went before after answers nothing
  pub is : report_of message ≡ report script answers

-- what a script is to say is found, or a fault stops it
abbrev pub Finds : Limits → Script → IoState → IoState → Result Message RunFault → Type 0
Finds limits script before after (Ok message) = Found script before after message
Finds limits script before after (Err fault) = Stopped limits script before after fault
