-- What a run of a script did to a shelf and two sinks.
use Rattle.std.specs.Prelude.{◌≡◌, ◌⊎◌, ⊤, ℕ, ◌+◌, ◌-◌, ◌^◌, ◌<◌, ◌≤◌, Bool, true, false, List, Option, None, Some, Result, Ok, Err, if◌then◌else◌, length}
use Rattle.std.specs.Io.KnownBytes.{Appends}
use Rattle.b3_io.specs.declared.options.Limits.{Limits}
use Rattle.b3_io.specs.declared.shelf.Shelf.{Ghosts as ShelfWords}
use Rattle.b3_io.specs.declared.sink.Sink.{Ghosts as SinkWords}
use Rattle.b3_io.specs.declared.tally.Tally.{Tally}
use Rattle.b3_io.specs.declared.fault.RunFault.{RunFault}
use Rattle.b3_io.specs.declared.fault.RunFault.TheVariants.{ReadFault, WriteFault, Memory, BadKey, EndlessInput}
use Rattle.b3_io.specs.Contents.{Contents, ContentHas}
use Rattle.b3_io.specs.Faults.{is_of_sink}
use Rattle.b3_io.specs.Sinks.{GainsBeginning}
use Rattle.b3_io.specs.Scripts.{Answer, Kind, Report, Script, AnswersFirst, AsksNext, FailsNext, IsComplete, report, report_from, unread}
use Rattle.b3_io.specs.Scripts.Kind.{Hashed, Listed, Key}

-- what is seen of a sink: how often it has failed, and its bytes, where they are told
pub record SinkState : Type 0 where
  pub failures : ℕ
  pub held : Option (List ℕ)

-- what is seen of a shelf and two sinks: what the shelf tells, and how often it has failed
pub record IoState : Type 0 where
  pub told : Option Contents
  pub sure : Bool
  pub failures : ℕ
  pub out : SinkState
  pub err : SinkState

-- the state of a sink
abbrev pub sink_state : {K : Type 0} → SinkWords K → K → SinkState
sink_state words sink = record { failures = words.failures sink; held = words.held sink }

-- the state of these three
abbrev pub io_state : {S O E : Type 0} → ShelfWords S → SinkWords O → SinkWords E → S → O → E → IoState
io_state s o e shelf out err = record {
  told = s.told shelf;
  sure = s.is_sure shelf;
  failures = s.failures shelf;
  out = sink_state o out;
  err = sink_state e err;
}

-- the sink took this text
pub record Gains (before after : SinkState) (text : List ℕ) : Type 0 where
  pub bytes : Appends before.held after.held text
  pub count : after.failures ≡ before.failures

-- the sink took a beginning of this text
pub record GainsPart (before after : SinkState) (text : List ℕ) : Type 0 where
  pub bytes : GainsBeginning before.held after.held text
  pub count : before.failures ≤ after.failures

-- the shelf tells what it told, and failed once for each answer that says so
pub record Heard (before after : IoState) (answers : List Answer) : Type 0 where
  pub told : after.told ≡ before.told
  pub sure : after.sure ≡ before.sure
  pub failures : after.failures ≡ before.failures + unread answers

-- the shelf gave these answers, and the sinks took this report
pub record Went (before after : IoState) (answers : List Answer) (said : Report) : Type 0 where
  pub heard : Heard before after answers
  pub out : Gains before.out after.out said.out
  pub err : Gains before.err after.err said.err

-- how many sinks failed at a fault
abbrev pub sink_failures : RunFault → ℕ
sink_failures fault = if is_of_sink fault then 1 else 0

-- the shelf gave these answers, the sinks took beginnings of this report, and then came this fault
pub record Broke (before after : IoState) (answers : List Answer) (said : Report) (fault : RunFault) : Type 0 where
  pub heard : Heard before after answers
  pub out : GainsPart before.out after.out said.out
  pub err : GainsPart before.err after.err said.err
  pub sinks : after.out.failures + after.err.failures ≡ before.out.failures + before.err.failures + sink_failures fault

-- the run went to its end: for one list of answers to the names asked, the sinks gained the report,
-- and the tally is the report's
pub record Ran (script : Script) (before after : IoState) (tally : Tally) : Type 0 where
  pub answers : List Answer
  pub agree : AnswersFirst before.told before.sure script answers
  pub complete : IsComplete script answers
  pub went : Went before after answers (report script answers)
  pub counted : tally ≡ (report script answers).tally

-- where contents are told, a file had not ended after `turns` reads that gave bytes, or a list has more
-- than `largest` bytes; never a key
abbrev pub IsEndless : Option Contents → Limits → Kind → List ℕ → Type 0
IsEndless told limits Hashed name = ContentHas told name (λ content. limits.turns ≤ length content)
IsEndless told limits Listed name =
    ContentHas told name (λ content. (limits.turns ≤ length content) ⊎ (limits.largest < length content))
IsEndless told limits Key name = ⊥

-- why a fault comes: it is the script's own, or comes from what is asked for next, or from want of
-- memory or a sink
abbrev pub IsCausedBy : RunFault → Option Contents → Limits → Script → List Answer → Type 0
IsCausedBy ReadFault told limits script answers = FailsNext script answers ReadFault
IsCausedBy WriteFault told limits script answers = ⊤
IsCausedBy Memory told limits script answers = ⊤
IsCausedBy BadKey told limits script answers = FailsNext script answers BadKey
IsCausedBy EndlessInput told limits script answers = AsksNext script answers (IsEndless told limits)

-- the run stopped at a fault: for one list of answers to the names whose answer was complete before
-- it, the sinks gained beginnings of the report so far
pub record Stopped (limits : Limits) (script : Script) (before after : IoState) (fault : RunFault) : Type 0 where
  pub answers : List Answer
  pub agree : AnswersFirst before.told before.sure script answers
  pub broke : Broke before after answers (report script answers) fault
  pub cause : IsCausedBy fault before.told limits script answers

-- the run of a script, to its end or to a fault
abbrev pub Runs : Limits → Script → IoState → IoState → Result Tally RunFault → Type 0
Runs limits script before after (Ok tally) = Ran script before after tally
Runs limits script before after (Err fault) = Stopped limits script before after fault

-- so many further failures of the shelf can be counted, and one of each sink
pub record CanCount (a : IoState) (count : ℕ) : Type 0 where
  pub shelf : a.failures + count < 2 ^ 64 - 1
  pub out : a.out.failures < 2 ^ 64 - 1
  pub err : a.err.failures < 2 ^ 64 - 1

-- over a shelf that tells its contents and fails nowhere else, the run's report is that of the contents
pub record RanFrom (contents : Contents) (script : Script) (before after : IoState) (tally : Tally) : Type 0 where
  pub out : Appends before.out.held after.out.held (report_from contents script).out
  pub err : Appends before.err.held after.err.held (report_from contents script).err
  pub counted : tally ≡ (report_from contents script).tally

-- the same, where a shelf tells its contents and fails nowhere else; nothing of any other
abbrev pub RanSurelyOver : Option Contents → Bool → Script → IoState → IoState → Tally → Type 0
RanSurelyOver None sure script before after tally = ⊤
RanSurelyOver (Some contents) false script before after tally = ⊤
RanSurelyOver (Some contents) true script before after tally = RanFrom contents script before after tally

abbrev pub RanSurely : Script → IoState → IoState → Tally → Type 0
RanSurely script before after tally = RanSurelyOver before.told before.sure script before after tally
