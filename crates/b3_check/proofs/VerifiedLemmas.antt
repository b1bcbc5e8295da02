-- What is right and counts no failure: each operand has its line, and each line of each list is verified.
use Rattle.std.proofs.Common.{◌≡◌, ◌⊎◌, ℕ, ◌+◌, ◌==◌, ◌&&◌, true, List, [], ◌∷◌, Option, Result, Ok, Err, sym, ◌∙◌, ap, inl, inr, arith}
use Rattle.std.specs.Prelude.{All, IfOk}
use Rattle.std.specs.List.{AllByRecursion, AllZip}
use Rattle.std.proofs.lemmas.Bool.{and_parts, cases_Bool, cond-false, eqb-true}
use Rattle.std.proofs.lemmas.List.Elements.{All-from_recursion}
use Rattle.b3_lines.specs.Lines.{lines_of}
use Rattle.b3_io.specs.declared.fault.RunFault.{RunFault}
use Rattle.b3_io.specs.declared.judging.Verdict.{Verdict}
use Rattle.b3_io.specs.declared.judging.Verdict.TheVariants.{Good, Differs, Missing, Unreadable}
use Rattle.b3_io.specs.declared.options.CheckOptions.{CheckOptions}
use Rattle.b3_io.specs.declared.options.SumOptions.{SumOptions}
use Rattle.b3_io.specs.declared.tally.Tally.{Tally}
use Rattle.b3_io.specs.Checks.{Entry, list_end_report, verdict_report, warning_report}
use Rattle.b3_io.specs.Contents.{Contents}
use Rattle.b3_check.specs.Laws.{HasLine, IsJust, LineIsRight, LineIsVerified, ListOperandIsRight, ListOperandIsVerified, OperandIsRight, WritesRightly, total}
use Rattle.b3_io.specs.Operands.{Operand}
use Rattle.b3_io.specs.Operands.Operand.{Text, NotText}
use Rattle.b3_io.specs.Scripts.{Report, nothing}
use Rattle.b3_io.specs.Tallies.{one_failed, one_missing, status_of}

-- a tally of status 0 counts no failure
none_failed : (tally : Tally) → status_of tally ≡ 0 → (tally.failed ≡ 0) × (tally.lists ≡ 0)
none_failed tally passed = elim (cases_Bool (tally.failed == 0 && tally.lists == 0)) [
  | inl good ↦
      let both = and_parts (tally.failed == 0) (tally.lists == 0) good in
      (eqb-true tally.failed 0 both.0, eqb-true tally.lists 0 both.1)
  | inr bad ↦
      let one : 1 ≡ 0 = sym (cond-false (tally.failed == 0 && tally.lists == 0) 0 1 bad) ∙ passed in
      absurd (omega (arith, one))
]

-- of reports that count no failed name each is a line
HasLine-from_right : (contents : Contents) (options : SumOptions) (operands : List Operand) (said : List Report)
    → AllZip (OperandIsRight contents options) operands said → (total said).tally.failed ≡ 0
    → AllZip (HasLine contents options) operands said
HasLine-from_right contents options [] [] right none = tt
HasLine-from_right contents options [] (one ∷ said) right none = absurd right
HasLine-from_right contents options (operand ∷ operands) [] right none = absurd right
HasLine-from_right contents options (NotText list number ∷ operands) (one ∷ said) right none =
    let failed : one.tally.failed ≡ 1 = ap (λ (p : Report). p.tally.failed) right.0 in
    absurd (omega (arith, none, failed))
HasLine-from_right contents options (Text name ∷ operands) (one ∷ said) right none = elim right.0 [
  | inl line ↦ (line, HasLine-from_right contents options operands said right.1 (omega (arith, none)))
  | inr complains ↦
      let failed : one.tally.failed ≡ 1 = elim complains [
        | inl unread ↦ ap (λ (p : Report). p.tally.failed) unread
        | inr bad ↦ ap (λ (p : Report). p.tally.failed) bad.1
      ] in
      absurd (omega (arith, none, failed))
]

pub WritesRightly-lines : (contents : Contents) (options : SumOptions) (operands : List Operand)
    (out_old out_new err_old err_new : Option (List ℕ)) (result : Result Tally RunFault)
    → WritesRightly (OperandIsRight contents options) (λ _. nothing) operands out_old out_new err_old err_new result
    → IfOk result (λ tally. status_of tally ≡ 0
    → WritesRightly (HasLine contents options) (λ _. nothing) operands out_old out_new err_old err_new (Ok tally))
WritesRightly-lines contents options operands out_old out_new err_old err_new (Err fault) right = tt
WritesRightly-lines contents options operands out_old out_new err_old err_new (Ok tally) right = λ passed.
    let none = none_failed tally passed in
    let failed : tally.failed ≡ (total right.said).tally.failed + 0 = ap (λ (t : Tally). t.failed) right.writes.2 in
    record {
      said = right.said;
      right = HasLine-from_right contents options operands right.said right.right (omega (arith, none.0, failed));
      writes = right.writes;
    }

-- a verdict that counts no failed line is good, or on a missing name that is passed over
verified : (contents : Contents) (options : CheckOptions) (entry : Entry) (verdict : Verdict)
    → IsJust contents entry verdict → (verdict_report options entry.shown verdict).tally.failed ≡ 0
    → IsJust contents entry Good ⊎ ((options.ignore_missing ≡ true) × IsJust contents entry Missing)
verified contents options entry Good is none = inl is
verified contents options entry Differs is none = absurd (omega (arith, none))
verified contents options entry Unreadable is none = absurd (omega (arith, none))
verified contents options entry Missing is none = elim (cases_Bool options.ignore_missing) [
  | inl passed ↦ inr (passed, is)
  | inr counted ↦
      let one = ap (λ (t : Tally). t.failed) (cond-false options.ignore_missing one_missing one_failed counted) in
      absurd (omega (arith, one, none))
]

-- of reports that count no failed line each is on one that is verified
LineIsVerified-from_right : (contents : Contents) (options : CheckOptions) (list : List ℕ) (lines : List (List ℕ))
    (said : List Report) → AllZip (LineIsRight contents options list) lines said → (total said).tally.failed ≡ 0
    → AllByRecursion (LineIsVerified contents options) lines
LineIsVerified-from_right contents options list [] said right none = tt
LineIsVerified-from_right contents options list (line ∷ lines) [] right none = absurd right
LineIsVerified-from_right contents options list (line ∷ lines) (one ∷ said) right none = elim right.0 [
  | inl has ↦
      let counted = ap (λ (p : Report). p.tally.failed) has.said_is in (
        (
          has.entry,
          has.says,
          verified contents options has.entry has.verdict has.is_just (omega (arith, none, counted)),
        ),
        LineIsVerified-from_right contents options list lines said right.1 (omega (arith, none)),
      )
  | inr refused ↦
      let counted = ap (λ (p : Report). p.tally.failed) refused.said_is in
      absurd (omega (arith, none, counted))
]

-- the same of lists
ListIsVerified-from_right : (contents : Contents) (options : CheckOptions) (lists : List Operand)
    (said : List Report) → AllZip (ListOperandIsRight contents options) lists said → (total said).tally.failed ≡ 0
    → (total said).tally.lists ≡ 0 → AllByRecursion (ListOperandIsVerified contents options) lists
ListIsVerified-from_right contents options [] said right none no_list = tt
ListIsVerified-from_right contents options (list ∷ lists) [] right none no_list = absurd right
ListIsVerified-from_right contents options (NotText names number ∷ lists) (one ∷ said) right none no_list =
    let counted = ap (λ (p : Report). p.tally.lists) right.0 in
    absurd (omega (arith, no_list, counted))
ListIsVerified-from_right contents options (Text list ∷ lists) (one ∷ said) right none no_list = elim right.0 [
  | inl has ↦
      let counted : one.tally.failed
      ≡ (total has.of_lines).tally.failed + (list_end_report options list (total has.of_lines).tally).tally.failed =
      ap (λ (p : Report). p.tally.failed) has.said_is in
      let lines = LineIsVerified-from_right contents options list (lines_of has.text) has.of_lines has.right
      (omega (arith, none, counted)) in (
        (has.text, has.has, All-from_recursion (LineIsVerified contents options) (lines_of has.text) lines),
        ListIsVerified-from_right contents options lists said right.1 (omega (arith, none)) (omega (arith, no_list)),
      )
  | inr unread ↦
      let counted = ap (λ (p : Report). p.tally.lists) unread in
      absurd (omega (arith, no_list, counted))
]

pub AllVerified-from_right : (contents : Contents) (options : CheckOptions) (lists : List Operand)
    (out_old out_new err_old err_new : Option (List ℕ)) (result : Result Tally RunFault)
    → WritesRightly (ListOperandIsRight contents options) (warning_report options) lists
    out_old out_new err_old err_new result
    → IfOk result (λ tally. status_of tally ≡ 0 → All (ListOperandIsVerified contents options) lists)
AllVerified-from_right contents options lists out_old out_new err_old err_new (Err fault) right = tt
AllVerified-from_right contents options lists out_old out_new err_old err_new (Ok tally) right = λ passed.
    let none = none_failed tally passed in
    let failed : tally.failed ≡ (total right.said).tally.failed + 0 = ap (λ (t : Tally). t.failed) right.writes.2 in
    let no_list : tally.lists ≡ (total right.said).tally.lists + 0 = ap (λ (t : Tally). t.lists) right.writes.2 in
    All-from_recursion (ListOperandIsVerified contents options) lists
    (ListIsVerified-from_right contents options lists right.said right.right (omega (arith, none.0, failed))
    (omega (arith, none.1, no_list)))
