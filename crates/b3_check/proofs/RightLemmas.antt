-- What is written over a shelf that tells its contents, whatever fails: right reports, name for name.
use Rattle.std.proofs.Common.{◌≡◌, ℕ, ◌+◌, ◌==◌, Bool, false, List, [], ◌∷◌, length, map, take, Option, None, Some, Result, Ok, Err, refl, sym, ◌∙◌, ap, subst, inl, inr, arith, string_bytes}
use Rattle.std.specs.Prelude.{MatchOption, bytes_eq, codes}
use Rattle.std.specs.Io.KnownBytes.{Appends}
use Rattle.std.specs.List.{AllZip}
use Rattle.std.proofs.lemmas.Bool.{cond_both, eqb-true}
use Rattle.std.proofs.lemmas.Bool.Decides.{not_from_Decides}
use Rattle.std.proofs.lemmas.List.{length-take, take_all}
use Rattle.std.proofs.lemmas.Slice.Eq.{bytes_eq-Decides}
use Rattle.b3_core.specs.Modes.{hash_mode, keyed_mode}
use Rattle.b3_core.specs.declared.modes.Mode.{Mode}
use Rattle.b3_hash.specs.Derivation.{derived_mode}
use Rattle.b3_lines.specs.Lines.{lines_of}
use Rattle.b3_lines.specs.Reading.{IsReadAs, SaysOne, first_refusal}
use Rattle.b3_lines.specs.declared.fault.LineFault.{LineFault}
use Rattle.b3_lines.proofs.Outcomes.{SaysAs-from_IsReadAs, one_outcome}
use Rattle.b3_io.specs.declared.fault.RunFault.{RunFault}
use Rattle.b3_io.specs.declared.fault.RunFault.TheVariants.{BadKey}
use Rattle.b3_io.specs.declared.judging.Verdict.TheVariants.{Good, Differs}
use Rattle.b3_io.specs.declared.options.CheckOptions.{CheckOptions}
use Rattle.b3_io.specs.declared.options.KeyChoice.{KeyChoice}
use Rattle.b3_io.specs.declared.options.KeyChoice.TheVariants.{Plain, Keyed, Derive}
use Rattle.b3_io.specs.declared.options.Limits.{Limits}
use Rattle.b3_io.specs.declared.options.SumOptions.{SumOptions}
use Rattle.b3_io.specs.declared.tally.Tally.{Tally}
use Rattle.b3_io.specs.Checks.{Entry, check_script, entry_of, line_script, line_scripts, lines_script, list_end_report, list_operand_script, list_script, lists_script, refused_report, unnamed_list_report, unread_list_report, verdict_on, verdict_report, warning_report}
use Rattle.b3_io.specs.Contents.{Contents, input_name}
use Rattle.b3_io.specs.Digests.{digest_of, digest_script, line_range, range_of}
use Rattle.b3_check.specs.Laws.{IsJust, IsModeOf, LineIsRight, ListOperandIsRight, OperandIsRight, Says, Writes, WritesRightly, cannot_show, digest, total}
use Rattle.b3_io.specs.Operands.{Operand}
use Rattle.b3_io.specs.Operands.Operand.{Text, NotText}
use Rattle.b3_io.specs.Runs.{IoState, Runs}
use Rattle.b3_io.specs.Scripts.{AgreesWith, Answer, AnswersFirst, IsComplete, Report, Script, answer_of, followed_by, in_turn, joined, nothing, report, then_counted}
use Rattle.b3_io.specs.Scripts.Kind.{Hashed, Key, Listed}
use Rattle.b3_io.specs.Scripts.Script.{Ask, Done, Fail, Say}
use Rattle.b3_io.specs.Sinks.{GainsBeginning}
use Rattle.b3_io.specs.Sums.{failed_report, keyed_script, name_report, name_script, names_script, not_text, operand_script, sum_script, with_mode}
use Rattle.b3_io.specs.Tallies.{no_tally, tally_sum}
use Rattle.b3_io.proofs.CheckLemmas.{entry_of-read}
use Rattle.b3_io.proofs.Gains.{GainsBeginning-longer}
use Rattle.b3_io.proofs.ScriptLemmas.{followed_by-counted, joined-joined, joined-nothing, none-tally_sum, nothing-joined, tally_sum-none, tally_sum-tally_sum}

-- a fact of the whole report of a script, whatever the answers are that agree with the contents
abbrev pub Assures : Contents → Bool → Script → (Report → Type 0) → Type 0
Assures contents sure Done P = P nothing
Assures contents sure (Fail fault) P = (said : Report) × P said
Assures contents sure (Say p s) P = Assures contents sure s (λ said. P (joined p said))
Assures contents sure (Ask kind name next) P =
    (answer : Answer) → AgreesWith (Some contents) sure kind name answer → Assures contents sure (next answer) P

-- reports of items, one after the other, each of which is right
abbrev HasEach : {A : Type 0} → (A → Report → Type 0) → List A → Report → Type 0
HasEach {A} R xs said = (of : List Report) × AllZip R xs of × (said ≡ total of)

-- the same of lists, and then the warning
abbrev AreChecked : Contents → CheckOptions → List Operand → Report → Type 0
AreChecked contents options lists said =
    (of : List Report) × AllZip (ListOperandIsRight contents options) lists of
    × (said ≡ joined (total of) (warning_report options (total of).tally))

-- what a line that is not refused says is its entry
Says-entry_of : (line : List ℕ) → first_refusal line ≡ None → Says line (entry_of line)
Says-entry_of line accepted =
    let one : SaysOne line =
    subst (λ (refusal : Option LineFault). MatchOption refusal (SaysOne line)
    (λ _. (digest name shown : List ℕ) → ¬ IsReadAs line digest name shown)) accepted (one_outcome line) in
    subst (Says line) (sym (entry_of-read line one.digest one.name one.shown one.reads)) one.reads

-- a whole report that begins with what is reported over these answers
record Completes (s : Script) (answers : List Answer) (P : Report → Type 0) : Type 0 where
  pub said : Report
  pub is : P said
  pub more : Report
  pub parts : said ≡ joined (report s answers) more
  pub all : IsComplete s answers → said ≡ report s answers

module _ (contents : Contents) (sure : Bool) where
  Assures-map : (s : Script) (P Q : Report → Type 0) → ((said : Report) → P said → Q said)
      → Assures contents sure s P → Assures contents sure s Q
  Assures-map Done P Q f holds = f nothing holds
  Assures-map (Fail fault) P Q f holds = (holds.0, f holds.0 holds.1)
  Assures-map (Say p s) P Q f holds =
      Assures-map s (λ said. P (joined p said)) (λ said. Q (joined p said)) (λ said. f (joined p said)) holds
  Assures-map (Ask kind name next) P Q f holds = λ answer agrees. Assures-map (next answer) P Q f (holds answer agrees)

  -- there is a whole report
  reported : (s : Script) (P : Report → Type 0) → Assures contents sure s P → (said : Report) × P said
  reported Done P holds = (nothing, holds)
  reported (Fail fault) P holds = holds
  reported (Say p s) P holds =
      let rest = reported s (λ said. P (joined p said)) holds in
      (joined p rest.0, rest.1)
  reported (Ask kind name next) P holds =
      let answer = answer_of kind (contents name) in
      reported (next answer) P (holds answer (inl refl))

  -- one that begins with what is reported
  completed : (s : Script) (P : Report → Type 0) (answers : List Answer) → Assures contents sure s P
      → AnswersFirst (Some contents) sure s answers → Completes s answers P
  completed Done P [] holds first = record {
    said = nothing;
    is = holds;
    more = nothing;
    parts = sym (nothing-joined nothing);
    all = λ _. refl;
  }
  completed Done P (x ∷ xs) holds first = absurd first
  completed (Fail fault) P [] holds first = record {
    said = holds.0;
    is = holds.1;
    more = holds.0;
    parts = sym (nothing-joined holds.0);
    all = λ whole. absurd whole;
  }
  completed (Fail fault) P (x ∷ xs) holds first = absurd first
  completed (Say p s) P answers holds first =
      let rest = completed s (λ said. P (joined p said)) answers holds first in
      record {
        said = joined p rest.said;
        is = rest.is;
        more = rest.more;
        parts = ap (joined p) rest.parts ∙ sym (joined-joined p (report s answers) rest.more);
        all = λ whole. ap (joined p) (rest.all whole);
      }
  completed (Ask kind name next) P [] holds first =
      let rest = reported (Ask kind name next) P holds in
      record {
        said = rest.0;
        is = rest.1;
        more = rest.0;
        parts = sym (nothing-joined rest.0);
        all = λ whole. absurd whole;
      }
  completed (Ask kind name next) P (x ∷ xs) holds first =
      let rest = completed (next x) P xs (holds x first.0) first.1 in
      record { said = rest.said; is = rest.is; more = rest.more; parts = rest.parts; all = rest.all }

  -- one script, and then another
  Assures-then_counted : (s : Script) (tally : Tally) (next : Tally → Script) (P : Report → Type 0)
      → Assures contents sure s (λ first. Assures contents sure (next (tally_sum tally first.tally))
      (λ second. P (joined first second)))
      → Assures contents sure (then_counted s tally next) P
  Assures-then_counted Done tally next P holds =
      subst (λ (t : Tally). Assures contents sure (next t) P) (tally_sum-none tally)
      (Assures-map (next (tally_sum tally no_tally)) (λ second. P (joined nothing second)) P
      (λ second. subst P (nothing-joined second)) holds)
  Assures-then_counted (Fail fault) tally next P holds =
      let rest = reported (next (tally_sum tally holds.0.tally)) (λ second. P (joined holds.0 second)) holds.1 in
      (joined holds.0 rest.0, rest.1)
  Assures-then_counted (Say p s) tally next P holds =
      let Then : Report → Tally → Type 0 =
      λ first counted. Assures contents sure (next counted) (λ second. P (joined p (joined first second))) in
      Assures-then_counted s (tally_sum tally p.tally) next (λ said. P (joined p said))
      (Assures-map s
      (λ first. Assures contents sure (next (tally_sum tally (joined p first).tally))
      (λ second. P (joined (joined p first) second)))
      (λ first. Then first (tally_sum (tally_sum tally p.tally) first.tally))
      (λ first then. subst (Then first) (sym (tally_sum-tally_sum tally p.tally first.tally))
      (Assures-map (next (tally_sum tally (joined p first).tally)) (λ second. P (joined (joined p first) second))
      (λ second. P (joined p (joined first second))) (λ second. subst P (joined-joined p first second)) then))
      holds)
  Assures-then_counted (Ask kind name asks) tally next P holds =
      λ answer agrees. Assures-then_counted (asks answer) tally next P (holds answer agrees)

  Assures-followed_by : (s t : Script) (P : Report → Type 0)
      → Assures contents sure s (λ first. Assures contents sure t (λ second. P (joined first second)))
      → Assures contents sure (followed_by s t) P
  Assures-followed_by s t P holds =
      subst (λ (u : Script). Assures contents sure u P) (sym (followed_by-counted s t no_tally))
      (Assures-then_counted s no_tally (λ _. t) P holds)

  -- ---- reports of items, one after the other

  -- a script of one item more
  Assures-more : {A : Type 0} (R : A → Report → Type 0) (x : A) (xs : List A) (s t : Script)
      → Assures contents sure s (R x) → Assures contents sure t (HasEach R xs)
      → Assures contents sure (followed_by s t) (HasEach R (x ∷ xs))
  Assures-more R x xs s t one others =
      Assures-followed_by s t (HasEach R (x ∷ xs))
      (Assures-map s (R x) (λ first. Assures contents sure t (λ second. HasEach R (x ∷ xs) (joined first second)))
      (λ first right. Assures-map t (HasEach R xs) (λ second. HasEach R (x ∷ xs) (joined first second))
      (λ second each. (first ∷ each.0, (right, each.1), ap (joined first) each.2)) others) one)

  -- a script of each
  Assures-each : {A : Type 0} (R : A → Report → Type 0) (script : A → Script)
      → ((x : A) → Assures contents sure (script x) (R x)) → (xs : List A)
      → Assures contents sure (in_turn (map script xs)) (HasEach R xs)
  Assures-each R script one [] = ([], tt, refl)
  Assures-each R script one (x ∷ xs) =
      Assures-more R x xs (script x) (in_turn (map script xs)) (one x) (Assures-each R script one xs)

  -- one thing is said
  Assures-said : (p : Report) (P : Report → Type 0) → P p → Assures contents sure (Say p Done) P
  Assures-said p P holds = subst P (sym (joined-nothing p)) holds

  -- ---- sums

  -- the mode of a key that is the content of `-`, or a fault
  keyed : (next : Mode → Script) (P : Report → Type 0) (content : Option (List ℕ)) → contents input_name ≡ content
      → ((mode : Mode) → IsModeOf contents Keyed mode → Assures contents sure (next mode) P) → (said : Report) × P said
      → Assures contents sure (keyed_script next (answer_of Key content)) P
  keyed next P None is run other = other
  keyed next P (Some bytes) is run other =
      let first = take 33 bytes in
      let Then : Script → Type 0 = λ s. Assures contents sure s P in
      cond_both (length first == 32) (next (keyed_mode first)) (Fail BadKey) Then
      (λ full.
      let count : length first ≡ 32 = eqb-true (length first) 32 full in
      let whole : first ≡ bytes = take_all 33 bytes (omega (arith, count, length-take 33 bytes)) in
      run (keyed_mode first) (first, is ∙ ap Some (sym whole), count, refl))
      (λ _. other)

  in_mode : (key : KeyChoice) (next : Mode → Script) (P : Report → Type 0)
      → ((mode : Mode) → IsModeOf contents key mode → Assures contents sure (next mode) P) → (said : Report) × P said
      → Assures contents sure (with_mode key next) P
  in_mode Plain next P run other = run hash_mode refl
  in_mode (Derive context) next P run other = run (derived_mode (string_bytes context)) refl
  in_mode Keyed next P run other = λ answer agrees. elim agrees [
    | inl is ↦ subst (λ (a : Answer). Assures contents sure (keyed_script next a) P) (sym is)
        (keyed next P (contents input_name) refl run other)
    | inr is ↦ subst (λ (a : Answer). Assures contents sure (keyed_script next a) P) (sym is.0) other
  ]

  -- a complaint in the place of each operand
  complaint_of : (options : SumOptions) (operand : Operand)
      → (said : Report) × OperandIsRight contents options operand said
  complaint_of options (Text name) = (failed_report name (codes "cannot read"), inr (inl refl))
  complaint_of options (NotText list number) = (failed_report list (not_text number), refl)

  complaints : (options : SumOptions) (operands : List Operand)
      → (said : Report) × HasEach (OperandIsRight contents options) operands said
  complaints options [] = (nothing, ([], tt, refl))
  complaints options (operand ∷ operands) =
      let rest = complaints options operands in
      let one = complaint_of options operand in
      (joined one.0 rest.0, (one.0 ∷ rest.1.0, (one.1, rest.1.1), ap (joined one.0) rest.1.2))

  -- a name that is answered has its line or a complaint
  named : (options : SumOptions) (mode : Mode) (name : List ℕ) (content : Option (List ℕ))
      → IsModeOf contents options.key mode → cannot_show options.form name ≡ false → contents name ≡ content
      → OperandIsRight contents options (Text name)
      (name_report options.form name (digest_of (range_of mode options) (answer_of Hashed content)))
  named options mode name None is_mode shows is = inr (inl refl)
  named options mode name (Some bytes) is_mode shows is = inl (record {
    name = name;
    mode = mode;
    content = bytes;
    is_name = refl;
    is_mode = is_mode;
    has = is;
    can_show = shows;
    said_is = refl;
  })

  Assures-name : (options : SumOptions) (mode : Mode) (name : List ℕ) → IsModeOf contents options.key mode
      → Assures contents sure (name_script options.form (range_of mode options) name)
      (OperandIsRight contents options (Text name))
  Assures-name options mode name is_mode =
      let Right = OperandIsRight contents options (Text name) in
      let says = name_report options.form name in
      let range = range_of mode options in
      let bad = failed_report name (codes "bad name") in
      cond_both (cannot_show options.form name) (Say bad Done) (digest_script range name says)
      (λ s. Assures contents sure s Right)
      (λ hidden. Assures-said bad Right (inr (inr (hidden, refl))))
      (λ shows answer agrees. Assures-said (says (digest_of range answer)) Right (elim agrees [
        | inl is ↦ subst (λ (a : Answer). Right (says (digest_of range a))) (sym is)
            (named options mode name (contents name) is_mode shows refl)
        | inr is ↦ subst (λ (a : Answer). Right (says (digest_of range a))) (sym is.0) (inr (inl refl))
      ]))

  Assures-operand : (options : SumOptions) (mode : Mode) (operand : Operand) → IsModeOf contents options.key mode
      → Assures contents sure (operand_script options.form (range_of mode options) operand)
      (OperandIsRight contents options operand)
  Assures-operand options mode (Text name) is_mode = Assures-name options mode name is_mode
  Assures-operand options mode (NotText list number) is_mode =
      Assures-said (failed_report list (not_text number)) (OperandIsRight contents options (NotText list number)) refl

  Assures-sums : (options : SumOptions) (operands : List Operand)
      → Assures contents sure (sum_script options operands) (HasEach (OperandIsRight contents options) operands)
  Assures-sums options operands =
      in_mode options.key (λ mode. names_script options.form (range_of mode options) operands)
      (HasEach (OperandIsRight contents options) operands)
      (λ mode is_mode. Assures-each (OperandIsRight contents options)
      (operand_script options.form (range_of mode options))
      (λ operand. Assures-operand options mode operand is_mode) operands)
      (complaints options operands)

  -- ---- checks

  -- the verdict on a content is right
  judged : (entry : Entry) (content : Option (List ℕ)) → contents entry.name ≡ content
      → IsJust contents entry (verdict_on entry.digest (digest_of line_range (answer_of Hashed content)))
  judged entry None is = is
  judged entry (Some bytes) is =
      let same = bytes_eq-Decides (digest bytes) entry.digest in
      cond_both (bytes_eq (digest bytes) entry.digest) Good Differs (IsJust contents entry)
      (λ good. (bytes, is, same.0 good))
      (λ bad. (bytes, is, not_from_Decides (bytes_eq (digest bytes) entry.digest) same bad))

  Assures-line : (options : CheckOptions) (list : List ℕ) (number : ℕ) (line : List ℕ) (refusal : Option LineFault)
      → first_refusal line ≡ refusal
      → Assures contents sure (line_script options list number line refusal) (LineIsRight contents options list line)
  Assures-line options list number line (Some fault) refused =
      Assures-said (refused_report options list number fault) (LineIsRight contents options list line) (inr (record {
        number = number;
        fault = fault;
        says_nothing = λ entry says.
            cc (sym refused ∙ (SaysAs-from_IsReadAs line entry.digest entry.name entry.shown says).accepted);
        said_is = refl;
      }))
  Assures-line options list number line None accepted = λ answer agrees.
      let entry = entry_of line in
      let found = λ (a : Answer). verdict_on entry.digest (digest_of line_range a) in
      Assures-said (verdict_report options entry.shown (found answer)) (LineIsRight contents options list line)
      (inl (record {
        entry = entry;
        verdict = found answer;
        says = Says-entry_of line accepted;
        is_just = elim agrees [
          | inl is ↦ subst (λ (a : Answer). IsJust contents entry (found a)) (sym is)
              (judged entry (contents entry.name) refl)
          | inr is ↦ subst (λ (a : Answer). IsJust contents entry (found a)) (sym is.0) tt
        ];
        said_is = refl;
      }))

  Assures-lines : (options : CheckOptions) (list : List ℕ) (number : ℕ) (lines : List (List ℕ))
      → Assures contents sure (in_turn (line_scripts options list number lines))
      (HasEach (LineIsRight contents options list) lines)
  Assures-lines options list number [] = ([], tt, refl)
  Assures-lines options list number (line ∷ lines) =
      Assures-more (LineIsRight contents options list) line lines
      (line_script options list number line (first_refusal line))
      (in_turn (line_scripts options list (number + 1) lines))
      (Assures-line options list number line (first_refusal line) refl)
      (Assures-lines options list (number + 1) lines)

  -- items, and then what is said by what was counted in them
  Assures-ended : {A : Type 0} (R : A → Report → Type 0) (xs : List A) (s : Script) (ends : Tally → Report)
      (P : Report → Type 0) → Assures contents sure s (HasEach R xs)
      → ((of : List Report) → AllZip R xs of → P (joined (total of) (ends (total of).tally)))
      → Assures contents sure (then_counted s no_tally (λ tally. Say (ends tally) Done)) P
  Assures-ended R xs s ends P each whole =
      Assures-then_counted s no_tally (λ tally. Say (ends tally) Done) P
      (Assures-map s (HasEach R xs) (λ first. P (joined first (joined (ends (tally_sum no_tally first.tally)) nothing)))
      (λ first all.
      let end : ends first.tally ≡ joined (ends (tally_sum no_tally first.tally)) nothing =
      ap ends (sym (none-tally_sum first.tally))
      ∙ sym (joined-nothing (ends (tally_sum no_tally first.tally))) in
      let is : joined (total all.0) (ends (total all.0).tally) ≡ joined first (ends first.tally) =
      ap (λ (p : Report). joined p (ends p.tally)) (sym all.2) in
      subst P (is ∙ ap (joined first) end) (whole all.0 all.1)) each)

  -- a list that is answered
  listed : (options : CheckOptions) (list : List ℕ) (content : Option (List ℕ)) → contents list ≡ content
      → Assures contents sure (lines_script options list (answer_of Listed content))
      (ListOperandIsRight contents options (Text list))
  listed options list None is =
      Assures-said (unread_list_report options list) (ListOperandIsRight contents options (Text list)) (inr refl)
  listed options list (Some text) is =
      Assures-ended (LineIsRight contents options list) (lines_of text)
      (in_turn (line_scripts options list 1 (lines_of text))) (list_end_report options list)
      (ListOperandIsRight contents options (Text list)) (Assures-lines options list 1 (lines_of text))
      (λ of right. inl (record { text = text; of_lines = of; has = is; right = right; said_is = refl }))

  Assures-list : (options : CheckOptions) (list : List ℕ)
      → Assures contents sure (list_script options list) (ListOperandIsRight contents options (Text list))
  Assures-list options list = λ answer agrees. elim agrees [
    | inl is ↦ subst (λ (a : Answer). Assures contents sure (lines_script options list a)
        (ListOperandIsRight contents options (Text list))) (sym is) (listed options list (contents list) refl)
    | inr is ↦ subst (λ (a : Answer). Assures contents sure (lines_script options list a)
        (ListOperandIsRight contents options (Text list))) (sym is.0)
        (Assures-said (unread_list_report options list) (ListOperandIsRight contents options (Text list)) (inr refl))
  ]

  Assures-list_operand : (options : CheckOptions) (list : Operand)
      → Assures contents sure (list_operand_script options list) (ListOperandIsRight contents options list)
  Assures-list_operand options (Text list) = Assures-list options list
  Assures-list_operand options (NotText names number) =
      Assures-said (unnamed_list_report options names number)
      (ListOperandIsRight contents options (NotText names number)) refl

  Assures-checks : (options : CheckOptions) (lists : List Operand)
      → Assures contents sure (check_script options lists) (AreChecked contents options lists)
  Assures-checks options lists =
      Assures-ended (ListOperandIsRight contents options) lists (lists_script options lists) (warning_report options)
      (AreChecked contents options lists)
      (Assures-each (ListOperandIsRight contents options) (list_operand_script options) (Assures-list_operand options)
      lists)
      (λ of right. (of, right, refl))

-- ---- runs

-- a run writes its whole report, or a beginning of it
writes : (limits : Limits) (s : Script) (before after : IoState) (result : Result Tally RunFault) (contents : Contents)
    (P : Report → Type 0) → before.told ≡ Some contents → Assures contents before.sure s P
    → Runs limits s before after result
    → (said : Report) × P said × Writes said before.out.held after.out.held before.err.held after.err.held result
writes limits s before after (Ok tally) contents P told holds ran =
    let first = subst (λ (t : Option Contents). AnswersFirst t before.sure s ran.answers) told ran.agree in
    let whole = completed contents before.sure s P ran.answers holds first in
    let is = sym (whole.all ran.complete) in (
      whole.said,
      whole.is,
      (
        subst (λ (p : Report). Appends before.out.held after.out.held p.out) is ran.went.out.bytes,
        subst (λ (p : Report). Appends before.err.held after.err.held p.err) is ran.went.err.bytes,
        ran.counted ∙ ap (λ (p : Report). p.tally) is,
      ),
    )
writes limits s before after (Err fault) contents P told holds stopped =
    let first = subst (λ (t : Option Contents). AnswersFirst t before.sure s stopped.answers) told stopped.agree in
    let whole = completed contents before.sure s P stopped.answers holds first in
    let is = sym whole.parts in
    let so_far = report s stopped.answers in (
      whole.said,
      whole.is,
      (
        subst (λ (p : Report). GainsBeginning before.out.held after.out.held p.out) is
            (GainsBeginning-longer _ _ so_far.out whole.more.out stopped.broke.out.bytes),
        subst (λ (p : Report). GainsBeginning before.err.held after.err.held p.err) is
            (GainsBeginning-longer _ _ so_far.err whole.more.err stopped.broke.err.bytes),
      ),
    )

pub WritesRightly-sums : (limits : Limits) (before after : IoState) (result : Result Tally RunFault)
    (contents : Contents) (options : SumOptions) (operands : List Operand) → before.told ≡ Some contents
    → Runs limits (sum_script options operands) before after result
    → WritesRightly (OperandIsRight contents options) (λ _. nothing) operands
    before.out.held after.out.held before.err.held after.err.held result
WritesRightly-sums limits before after result contents options operands told run =
    let all = writes limits (sum_script options operands) before after result contents
    (HasEach (OperandIsRight contents options) operands) told (Assures-sums contents before.sure options operands) run
    in
    let Wrote_so : Report → Type 0 =
    λ p. Writes p before.out.held after.out.held before.err.held after.err.held result in
    record {
      said = all.1.0;
      right = all.1.1;
      writes = subst Wrote_so (all.1.2 ∙ sym (joined-nothing (total all.1.0))) all.2;
    }

pub WritesRightly-checks : (limits : Limits) (before after : IoState) (result : Result Tally RunFault)
    (contents : Contents) (options : CheckOptions) (lists : List Operand) → before.told ≡ Some contents
    → Runs limits (check_script options lists) before after result
    → WritesRightly (ListOperandIsRight contents options) (warning_report options) lists
    before.out.held after.out.held before.err.held after.err.held result
WritesRightly-checks limits before after result contents options lists told run =
    let all = writes limits (check_script options lists) before after result contents
    (AreChecked contents options lists) told (Assures-checks contents before.sure options lists) run in
    let Wrote_so : Report → Type 0 =
    λ p. Writes p before.out.held after.out.held before.err.held after.err.held result in
    record { said = all.1.0; right = all.1.1; writes = subst Wrote_so all.1.2 all.2 }
