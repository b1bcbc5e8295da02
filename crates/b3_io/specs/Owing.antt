-- Texts that are still to be written: lines of a run that wait for those after them.
use Rattle.std.specs.Prelude.{◌≡◌, ◌⊎◌, ℕ, ◌++◌, List, [], Result, Ok, Err}
use Rattle.b3_io.specs.declared.tally.Tally.{Tally}
use Rattle.b3_io.specs.declared.fault.RunFault.{RunFault}
use Rattle.b3_io.specs.declared.fault.RunFault.TheVariants.{WriteFault, Memory}
use Rattle.b3_io.specs.Runs.{Broke, IoState, Went}
use Rattle.b3_io.specs.Scripts.{Answer, Report, Script, AnswersFirst, IsComplete, joined, report}
use Rattle.b3_io.specs.Tallies.{no_tally}

-- a text for the first sink
abbrev pub on_out : List ℕ → Report
on_out text = record { out = text; err = []; tally = no_tally }

-- a report, of which the first sink takes this text
abbrev pub with_out : List ℕ → Report → Report
with_out text said = record { out = text; err = said.err; tally = said.tally }

-- the shelf gave these answers, and a report was said: of what was owed to the first sink and the report's
-- text, what is owing now is not written
pub record WentOwing (before after : IoState) (owed owing : List ℕ) (answers : List Answer) (said : Report)
    : Type 0 where
  pub written : List ℕ
  pub text : owed ++ said.out ≡ written ++ owing
  pub went : Went before after answers (with_out written said)

-- a report is said, or a sink fails, or there is no memory
abbrev pub SaysOwing : {T : Type 0} → Report → IoState → IoState → List ℕ → List ℕ → Result T RunFault → Type 0
SaysOwing said before after owed owing (Ok _) = WentOwing before after owed owing [] said
SaysOwing said before after owed owing (Err fault) =
    Broke before after [] (joined (on_out owed) said) fault × ((fault ≡ WriteFault) ⊎ (fault ≡ Memory))

-- the run of a script went to its end
pub record RanOwing (script : Script) (before after : IoState) (owed owing : List ℕ) (tally : Tally) : Type 0 where
  pub answers : List Answer
  pub agree : AnswersFirst before.told before.sure script answers
  pub complete : IsComplete script answers
  pub went : WentOwing before after owed owing answers (report script answers)
  pub counted : tally ≡ (report script answers).tally
