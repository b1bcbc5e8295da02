-- Scripts: what a run says and asks, where what is asked next may depend on the answers so far. The
-- report of a run and its tally are those of its script over the answers, taken one after the other.
use Rattle.std.specs.Prelude.{◌≡◌, ◌⊎◌, ⊤, ℕ, ◌+◌, Bool, false, List, [], ◌∷◌, ◌++◌, take, Option, None, Some, Result, Ok, Err}
use Rattle.std.specs.Option.{ok_or, option_map}
use Rattle.b3_io.specs.declared.fault.RunFault.{RunFault}
use Rattle.b3_io.specs.declared.shelf.NoContent.{NoContent}
use Rattle.b3_io.specs.declared.shelf.NoContent.TheVariants.{Missing, CannotRead}
use Rattle.b3_io.specs.declared.tally.Tally.{Tally}
use Rattle.b3_io.specs.Contents.{Contents}
use Rattle.b3_io.specs.Tallies.{no_tally, tally_sum}

-- what a name gives, or why it gives nothing: it is missing, or it cannot be read
abbrev pub Given : Type 0 → Type 0
Given T = Result T NoContent

-- what is made of what a name gives
abbrev pub given_map : {T U : Type 0} → (T → U) → Given T → Given U
given_map f (Ok x) = Ok (f x)
given_map f (Err why) = Err why

-- the bytes of a name
abbrev pub Answer : Type 0
Answer = Given (List ℕ)

-- what is asked of a name: its whole content, which is hashed; its whole content, which is a list of
-- check lines; or a key, which is at most the first 33 bytes
pub data Kind : Type 0 where
  Hashed : Kind
  Listed : Kind
  Key : Kind

-- the texts for the two sinks, and what is counted
pub record Report : Type 0 where
  pub out : List ℕ
  pub err : List ℕ
  pub tally : Tally

-- no text, and nothing counted
abbrev pub nothing : Report
nothing = record { out = []; err = []; tally = no_tally }

-- one report after the other
abbrev pub joined : Report → Report → Report
joined p q = record { out = p.out ++ q.out; err = p.err ++ q.err; tally = tally_sum p.tally q.tally }

-- a run ends, stops at a fault, says something and goes on, or asks for a name and goes on by the answer
pub data Script : Type 0 where
  Done : Script
  Fail : RunFault → Script
  Say : Report → Script → Script
  Ask : Kind → List ℕ → (Answer → Script) → Script

-- one script, and then another
abbrev pub followed_by : Script → Script → Script
followed_by Done t = t
followed_by (Fail fault) t = Fail fault
followed_by (Say p s) t = Say p (followed_by s t)
followed_by (Ask kind name next) t = Ask kind name (λ answer. followed_by (next answer) t)

-- scripts, one after the other
abbrev pub in_turn : List Script → Script
in_turn [] = Done
in_turn (s ∷ scripts) = followed_by s (in_turn scripts)

-- one script, and then another, which depends on what was counted before and in the first
abbrev pub then_counted : Script → Tally → (Tally → Script) → Script
then_counted Done tally next = next tally
then_counted (Fail fault) tally next = Fail fault
then_counted (Say p s) tally next = Say p (then_counted s (tally_sum tally p.tally) next)
then_counted (Ask kind name asks) tally next = Ask kind name (λ answer. then_counted (asks answer) tally next)

-- the report over the answers; for fewer answers, the report so far
abbrev pub report : Script → List Answer → Report
report Done answers = nothing
report (Fail fault) answers = nothing
report (Say p s) answers = joined p (report s answers)
report (Ask kind name next) [] = nothing
report (Ask kind name next) (answer ∷ answers) = report (next answer) answers

-- the answer that a content gives; a name that has none is missing
abbrev pub answer_of : Kind → Option (List ℕ) → Answer
answer_of Hashed content = ok_or content Missing
answer_of Listed content = ok_or content Missing
answer_of Key content = ok_or (option_map (take 33) content) Missing

-- the report over the contents of the names
abbrev pub report_from : Contents → Script → Report
report_from contents Done = nothing
report_from contents (Fail fault) = nothing
report_from contents (Say p s) = joined p (report_from contents s)
report_from contents (Ask kind name next) = report_from contents (next (answer_of kind (contents name)))

-- an answer is that of the content, where contents are told; a name may also be answered as one that
-- cannot be read, but not by a shelf that fails nowhere else
abbrev pub AgreesWith : Option Contents → Bool → Kind → List ℕ → Answer → Type 0
AgreesWith None sure kind name answer = ⊤
AgreesWith (Some contents) sure kind name answer =
    (answer ≡ answer_of kind (contents name)) ⊎ ((answer ≡ Err CannotRead) × (sure ≡ false))

-- the answers are to the names that are asked first, and each agrees with what is told
abbrev pub AnswersFirst : Option Contents → Bool → Script → List Answer → Type 0
AnswersFirst told sure Done [] = ⊤
AnswersFirst told sure Done (answer ∷ answers) = ⊥
AnswersFirst told sure (Fail fault) [] = ⊤
AnswersFirst told sure (Fail fault) (answer ∷ answers) = ⊥
AnswersFirst told sure (Say p s) answers = AnswersFirst told sure s answers
AnswersFirst told sure (Ask kind name next) [] = ⊤
AnswersFirst told sure (Ask kind name next) (answer ∷ answers) =
    AgreesWith told sure kind name answer × AnswersFirst told sure (next answer) answers

-- the script goes to its end: no name is asked that has no answer, and no fault stops it
abbrev pub IsComplete : Script → List Answer → Type 0
IsComplete Done answers = ⊤
IsComplete (Fail fault) answers = ⊥
IsComplete (Say p s) answers = IsComplete s answers
IsComplete (Ask kind name next) [] = ⊥
IsComplete (Ask kind name next) (answer ∷ answers) = IsComplete (next answer) answers

-- a fact of what is asked after these answers
abbrev pub AsksNext : Script → List Answer → (Kind → List ℕ → Type 0) → Type 0
AsksNext Done answers P = ⊥
AsksNext (Fail fault) answers P = ⊥
AsksNext (Say p s) answers P = AsksNext s answers P
AsksNext (Ask kind name next) [] P = P kind name
AsksNext (Ask kind name next) (answer ∷ answers) P = AsksNext (next answer) answers P

-- after these answers the script stops at this fault
abbrev pub FailsNext : Script → List Answer → RunFault → Type 0
FailsNext Done answers fault = ⊥
FailsNext (Fail own) answers fault = own ≡ fault
FailsNext (Say p s) answers fault = FailsNext s answers fault
FailsNext (Ask kind name next) [] fault = ⊥
FailsNext (Ask kind name next) (answer ∷ answers) fault = FailsNext (next answer) answers fault

-- how many answers say that a name is missing or cannot be read
abbrev pub unread : List Answer → ℕ
unread [] = 0
unread (Err _ ∷ answers) = 1 + unread answers
unread (Ok _ ∷ answers) = unread answers
