-- What sums and checks of known files say: their reports, and that the lines of files read back.
use Rattle.std.proofs.Common.{◌≡◌, ℕ, zero, suc, ◌+◌, ◌/◌, ◌%◌, ◌^◌, ◌<◌, ◌&&◌, Bool, true, false, List, [], ◌∷◌, ◌++◌, Option, None, Some, Result, Ok, Err, refl, sym, ◌∙◌, ap, subst, length, map, add-zero, append_assoc, append-nil, one-add, inl, inr, arith}
use Rattle.std.specs.Prelude.{IfOk, codes, if◌then◌else◌}
use Rattle.std.specs.Int.{byte_at}
use Rattle.std.specs.List.{AllByRecursion, AllZip, flat_map}
use Rattle.std.proofs.Math.Path.{fun_ext}
use Rattle.std.proofs.lemmas.Bool.{cases_lt, ne_eqb, or_from}
use Rattle.std.proofs.lemmas.List.{get_or_past, nil_from_length}
use Rattle.std.proofs.lemmas.List.FromFn.{get_or-map-range_with_len}
use Rattle.std.proofs.lemmas.Slice.Eq.{bytes_eq-Decides}
use Rattle.hex.specs.Hex.{IsBytes}
use Rattle.b3_core.specs.Modes.{hash_mode}
use Rattle.b3_core.specs.Nodes.{output_block}
use Rattle.b3_core.specs.Output.{output_byte, output_bytes}
use Rattle.b3_core.specs.Tree.{top}
use Rattle.b3_core.specs.Words.{bytes_of}
use Rattle.b3_core.specs.declared.nodes.Node.{Node}
use Rattle.b3_core.proofs.OutputBytes.{length-output_bytes}
use Rattle.b3_lines.specs.Lines.{HasNo, lines_of}
use Rattle.b3_lines.specs.Reading.{first_refusal}
use Rattle.b3_lines.specs.Writing.{plain_text, shown, tagged_text}
use Rattle.b3_lines.proofs.OneLine.{HasNoLineFeed-plain, HasNoLineFeed-tagged}
use Rattle.b3_lines.proofs.Outcomes.{SaysAs-from_IsReadAs}
use Rattle.b3_lines.proofs.Pieces.{pieces_of-nil, pieces_of-piece}
use Rattle.b3_lines.proofs.ReadBack.{Reads-plain, ReadsTagged-tagged}
use Rattle.b3_io.specs.declared.fault.RunFault.{RunFault}
use Rattle.b3_io.specs.declared.judging.Verdict.{Verdict}
use Rattle.b3_io.specs.declared.judging.Verdict.TheVariants.{Good, Differs}
use Rattle.b3_io.specs.declared.options.CheckOptions.{CheckOptions}
use Rattle.b3_io.specs.declared.options.Form.{Form}
use Rattle.b3_io.specs.declared.options.Form.TheVariants.{Named, Bare, Raw, Tagged}
use Rattle.b3_io.specs.declared.options.SumOptions.{SumOptions}
use Rattle.b3_io.specs.declared.shelf.Shelf.{Ghosts as ShelfWords}
use Rattle.b3_io.specs.declared.sink.Sink.{Ghosts as SinkWords}
use Rattle.b3_io.specs.declared.tally.Tally.{Tally}
use Rattle.b3_io.specs.Contents.{Contents}
use Rattle.b3_io.specs.Checks.{Entry, check_script, line_script, line_scripts, lines_script, list_end_script, verdict_on, verdict_report, warning_report, warning_script}
use Rattle.b3_io.specs.Digests.{digest_of, digest_script, line_range}
use Rattle.b3_check.specs.Laws.{AsksAll, AsksDigests, File, IsThere, Says, Writes, digest, oks_of, sums_of, total, verdict, verdict_over, verdicts_on}
use Rattle.b3_io.specs.Operands.{Operand}
use Rattle.b3_io.specs.Operands.Operand.{Text}
use Rattle.b3_io.specs.Runs.{RanFrom, RanSurely, RanSurelyOver, IoState, io_state}
use Rattle.b3_io.specs.Scripts.{Report, Script, answer_of, followed_by, in_turn, joined, report_from, then_counted}
use Rattle.b3_io.specs.Scripts.Kind.{Hashed, Listed}
use Rattle.b3_io.specs.Scripts.Script.{Ask, Done, Fail, Say}
use Rattle.b3_io.specs.Sums.{digest_text, failed_report, is_bad_name, name_report, names_script, shows_name, sum_script}
use Rattle.b3_io.specs.Tallies.{all_ok, no_tally, tally_sum}
use Rattle.b3_io.proofs.CheckLemmas.{entry_of-read}
use Rattle.b3_io.proofs.ScriptLemmas.{followed_by-Done, joined-joined, none-tally_sum, nothing-joined, tally_sum-none, tally_sum-tally_sum}

-- ---- a sum

-- what is written of a file
abbrev line_of : Form → File → List ℕ
line_of form file = digest_text form (digest file.content) file.name

-- a line can show the name
shown_name : (contents : Contents) (file : File) → IsThere contents file → is_bad_name file.name ≡ false
shown_name contents file is =
    or_from _ _ (ne_eqb _ 0 (λ none. is.is_named (nil_from_length file.name none))) is.is_lawful

and_false : (b : Bool) → (b && false) ≡ false
and_false true = refl
and_false false = refl

-- what a sum of files says
report_from-names : (form : Form) (contents : Contents) (files : List File) → AllByRecursion (IsThere contents) files
    → report_from contents (names_script form line_range (map (λ (file : File). Text file.name) files))
    ≡ sums_of form files
report_from-names form contents [] is = refl
report_from-names form contents (file ∷ files) is =
    let name = file.name in
    let rest = names_script form line_range (map (λ (f : File). Text f.name) files) in
    let asks = digest_script line_range name (name_report form name) in
    let says = Say (failed_report name (codes "bad name")) Done in
    let said : Report = record { out = line_of form file; err = []; tally = all_ok 1 } in
    ap (λ (b : Bool). report_from contents (followed_by (if b then says else asks) rest))
    (ap (λ (b : Bool). shows_name form && b) (shown_name contents file is.0) ∙ and_false (shows_name form))
    ∙ ap (λ (c : Option (List ℕ)). joined (name_report form name (digest_of line_range (answer_of Hashed c)))
    (report_from contents rest)) is.0.has
    ∙ ap (joined said) (report_from-names form contents files is.1)
    ∙ ap (λ (n : ℕ). record { out = line_of form file ++ flat_map (line_of form) files; err = []; tally = all_ok n })
    (one-add (length files))

-- what a sum by digests says
pub report_from-summed : (asked : SumOptions) (contents : Contents) (files : List File) (operands : List Operand)
    → AsksDigests asked → operands ≡ map (λ (file : File). Text file.name) files
    → AllByRecursion (IsThere contents) files
    → report_from contents (sum_script asked operands) ≡ sums_of asked.form files
report_from-summed asked contents files operands asks operands_are is =
    rw (asks.key, asks.seek, asks.length, operands_are) (report_from-names asked.form contents files is)

-- ---- a check

-- what is said of lines by their verdicts
abbrev verdicts_said : CheckOptions → Contents → List Entry → Report
verdicts_said asked contents entries =
    total (map (λ (entry : Entry). verdict_report asked entry.shown (verdict_over contents entry)) entries)

-- the verdict by the digest of a content
verdict_on-content : (said : List ℕ) (content : Option (List ℕ))
    → verdict_on said (digest_of line_range (answer_of Hashed content)) ≡ verdict said content
verdict_on-content said None = refl
verdict_on-content said (Some content) = refl

-- what is said of a good line
verdict_report-good : (asked : CheckOptions) (shown : List ℕ) → AsksAll asked
    → verdict_report asked shown Good ≡ record { out = shown ++ codes ": OK" ++ 10 ∷ []; err = []; tally = all_ok 1 }
verdict_report-good asked shown asks = rw (asks.status, asks.quiet) refl

-- the script of a line that is read
abbrev entry_script : CheckOptions → Entry → Script
entry_script asked entry =
    digest_script line_range entry.name (λ found. verdict_report asked entry.shown (verdict_on entry.digest found))

line_script-read : (asked : CheckOptions) (list : List ℕ) (number : ℕ) (line : List ℕ) (entry : Entry)
    → Says line entry
    → line_script asked list number line (first_refusal line) ≡ entry_script asked entry
line_script-read asked list number line entry says =
    ap (line_script asked list number line)
    (SaysAs-from_IsReadAs line entry.digest entry.name entry.shown says).accepted
    ∙ ap (entry_script asked) (entry_of-read line entry.digest entry.name entry.shown says)

-- what is said of lines that are read, and then by what was counted
report_from-lines : (asked : CheckOptions) (contents : Contents) (list : List ℕ) (number : ℕ)
    (lines : List (List ℕ)) (entries : List Entry) (tally : Tally) (next : Tally → Script)
    → AllZip Says lines entries
    → report_from contents (then_counted (in_turn (line_scripts asked list number lines)) tally next)
    ≡ joined (verdicts_said asked contents entries)
    (report_from contents (next (tally_sum tally (verdicts_said asked contents entries).tally)))
report_from-lines asked contents list number [] [] tally next says =
    ap (λ (t : Tally). report_from contents (next t)) (sym (tally_sum-none tally))
    ∙ sym (nothing-joined (report_from contents (next (tally_sum tally no_tally))))
report_from-lines asked contents list number [] (entry ∷ entries) tally next says = absurd says
report_from-lines asked contents list number (line ∷ lines) [] tally next says = absurd says
report_from-lines asked contents list number (line ∷ lines) (entry ∷ entries) tally next says =
    let rest = in_turn (line_scripts asked list (number + 1) lines) in
    let said : Report = verdict_report asked entry.shown (verdict_over contents entry) in
    let later = verdicts_said asked contents entries in
    let is : verdict_report asked entry.shown
    (verdict_on entry.digest (digest_of line_range (answer_of Hashed (contents entry.name)))) ≡ said =
    ap (verdict_report asked entry.shown) (verdict_on-content entry.digest (contents entry.name)) in
    ap (λ (s : Script). report_from contents (then_counted (followed_by s rest) tally next))
    (line_script-read asked list number line entry says.0)
    ∙ ap (λ (r : Report). joined r (report_from contents (then_counted rest (tally_sum tally r.tally) next))) is
    ∙ ap (joined said)
    (report_from-lines asked contents list (number + 1) lines entries (tally_sum tally said.tally) next says.1)
    ∙ ap (λ (t : Tally). joined said (joined later (report_from contents (next t))))
    (tally_sum-tally_sum tally said.tally later.tally)
    ∙ sym (joined-joined said later
    (report_from contents (next (tally_sum tally (tally_sum said.tally later.tally)))))

-- what follows by what was counted may be counted with it
then_counted-then_counted : (s : Script) (tally : Tally) (next last : Tally → Script)
    → then_counted (then_counted s tally next) tally last
    ≡ then_counted s tally (λ t. then_counted (next t) t last)
then_counted-then_counted Done tally next last = refl
then_counted-then_counted (Fail fault) tally next last = refl
then_counted-then_counted (Say p s) tally next last =
    ap (Say p) (then_counted-then_counted s (tally_sum tally p.tally) next last)
then_counted-then_counted (Ask kind name asks) tally next last =
    ap (Ask kind name) (fun_ext (λ answer. then_counted-then_counted (asks answer) tally next last))

-- the end of a list, and the warning
abbrev end_script : CheckOptions → List ℕ → Tally → Script
end_script asked list tally = then_counted (list_end_script asked list tally) tally (warning_script asked)

report_from-end : (asked : CheckOptions) (contents : Contents) (list : List ℕ) (tally : Tally) → AsksAll asked
    → report_from contents (end_script asked list tally)
    ≡ warning_report asked tally
report_from-end asked contents list tally asks =
    rw (asks.ignore_missing, asks.strict, asks.status) (simp (append-nil, add-zero))

-- what a check says of a list whose lines say something
pub report_from-checked : (asked : CheckOptions) (contents : Contents) (list text : List ℕ) (entries : List Entry)
    → AsksAll asked → contents list ≡ Some text → AllZip Says (lines_of text) entries
    → report_from contents (check_script asked (Text list ∷ [])) ≡ verdicts_on asked contents entries
report_from-checked asked contents list text entries asks has says =
    let lines = in_turn (line_scripts asked list 1 (lines_of text)) in
    let ends = list_end_script asked list in
    let warns = warning_script asked in
    let said = verdicts_said asked contents entries in
    ap (λ (c : Option (List ℕ)). report_from contents
    (then_counted (followed_by (lines_script asked list (answer_of Listed c)) Done) no_tally warns)) has
    ∙ ap (λ (s : Script). report_from contents (then_counted s no_tally warns))
    (followed_by-Done (then_counted lines no_tally ends))
    ∙ ap (report_from contents) (then_counted-then_counted lines no_tally ends warns)
    ∙ report_from-lines asked contents list 1 (lines_of text) entries no_tally (end_script asked list) says
    ∙ ap (λ (t : Tally). joined said (report_from contents (end_script asked list t))) (none-tally_sum said.tally)
    ∙ ap (joined said) (report_from-end asked contents list said.tally asks)

-- ---- a digest is made of bytes

byte_at-below : (i n : ℕ) → byte_at i n < 256
byte_at-below zero n = omega arith
byte_at-below (suc i) n = remainder (n / 256 ^ suc i) where
  remainder : (m : ℕ) → m % 256 < 256
  remainder m = omega arith

IsBytes-bytes_of : (words : List ℕ) → IsBytes (bytes_of words)
IsBytes-bytes_of [] i = omega arith
IsBytes-bytes_of (w ∷ words) zero = byte_at-below 0 w
IsBytes-bytes_of (w ∷ words) (suc zero) = byte_at-below 1 w
IsBytes-bytes_of (w ∷ words) (suc (suc zero)) = byte_at-below 2 w
IsBytes-bytes_of (w ∷ words) (suc (suc (suc zero))) = byte_at-below 3 w
IsBytes-bytes_of (w ∷ words) (suc (suc (suc (suc i)))) = IsBytes-bytes_of words i

IsBytes-output_block : (node : Node) (i : ℕ) → IsBytes (output_block node i)
unfolding output_block
IsBytes-output_block node i = IsBytes-bytes_of _

IsBytes-output_bytes : (node : Node) (from len : ℕ) → IsBytes (output_bytes node from len)
unfolding output_bytes
IsBytes-output_bytes node from len i = elim (cases_lt i len) [
  | inl within ↦
      rw (get_or-map-range_with_len (output_byte node) from len i (from + i) 0 within refl)
      (IsBytes-output_block node ((from + i) / 64) ((from + i) % 64))
  | inr past ↦
      rw (get_or_past (output_bytes node from len) i 0 (omega (arith, length-output_bytes node from len))) (omega arith)
]

-- ---- the lines of files

-- what the line of a file says
abbrev entry_of : File → Entry
entry_of file = record { digest = digest file.content; name = file.name; shown = shown file.name }

-- the line of a file is one line, and says so
record IsLineOf (form : Form) (file : File) : Type 0 where
  text : List ℕ
  is : line_of form file ≡ text ++ 10 ∷ []
  one : HasNo 10 text
  says : Says text (entry_of file)

line_of-form : (form : Form) (contents : Contents) (file : File) → shows_name form ≡ true → IsThere contents file
    → IsLineOf form file
line_of-form Named contents file shows there =
    let root = top hash_mode 0 file.content in
    record {
      text = plain_text (digest file.content) file.name;
      is = refl;
      one = HasNoLineFeed-plain (digest file.content) file.name;
      says = inl (Reads-plain (digest file.content) file.name (length-output_bytes root 0 32)
          (IsBytes-output_bytes root 0 32) there.is_named there.is_lawful there.is_text);
    }
line_of-form Bare contents file shows there = absurd (cc shows)
line_of-form Raw contents file shows there = absurd (cc shows)
line_of-form Tagged contents file shows there =
    let root = top hash_mode 0 file.content in
    record {
      text = tagged_text (digest file.content) file.name;
      is = refl;
      one = HasNoLineFeed-tagged (digest file.content) file.name;
      says = inr (ReadsTagged-tagged (digest file.content) file.name (length-output_bytes root 0 32)
          (IsBytes-output_bytes root 0 32) there.is_named there.is_lawful there.is_text);
    }

-- the lines of files say their entries
Says-files : (form : Form) (contents : Contents) (files : List File) → shows_name form ≡ true
    → AllByRecursion (IsThere contents) files
    → AllZip Says (lines_of (flat_map (line_of form) files)) (map entry_of files)
Says-files form contents [] shows there =
    subst (λ (lines : List (List ℕ)). AllZip Says lines []) (sym (pieces_of-nil 10)) tt
Says-files form contents (file ∷ files) shows there =
    let rest = flat_map (line_of form) files in
    let line = line_of-form form contents file shows there.0 in
    let first : lines_of (line_of form file ++ rest) ≡ line.text ∷ lines_of rest =
    ap (λ (t : List ℕ). lines_of (t ++ rest)) line.is ∙ ap lines_of (append_assoc line.text (10 ∷ []) rest)
    ∙ pieces_of-piece 10 line.text rest line.one in
    subst (λ (lines : List (List ℕ)). AllZip Says lines (map entry_of (file ∷ files))) (sym first)
    (line.says, Says-files form contents files shows there.1)

-- the verdict on each is that it is ok
verdict_over-file : (contents : Contents) (file : File) → IsThere contents file
    → verdict_over contents (entry_of file) ≡ Good
verdict_over-file contents file is =
    ap (verdict (digest file.content)) is.has
    ∙ ap (λ (b : Bool). if b then Good else Differs)
    ((bytes_eq-Decides (digest file.content) (digest file.content)).1 refl)

-- what is written of a file whose line is good
abbrev ok_of : File → List ℕ
ok_of file = shown file.name ++ codes ": OK" ++ 10 ∷ []

verdicts_said-files : (asked : CheckOptions) (contents : Contents) (files : List File) → AsksAll asked
    → AllByRecursion (IsThere contents) files
    → verdicts_said asked contents (map entry_of files) ≡ oks_of files
verdicts_said-files asked contents [] asks is = refl
verdicts_said-files asked contents (file ∷ files) asks is =
    let later = verdicts_said asked contents (map entry_of files) in
    ap (λ (v : Verdict). joined (verdict_report asked (shown file.name) v) later)
    (verdict_over-file contents file is.0)
    ∙ ap (λ (r : Report). joined r later) (verdict_report-good asked (shown file.name) asks)
    ∙ ap (joined (record { out = ok_of file; err = []; tally = all_ok 1 }))
    (verdicts_said-files asked contents files asks is.1)
    ∙ ap (λ (n : ℕ). record { out = flat_map ok_of (file ∷ files); err = []; tally = all_ok n })
    (one-add (length files))

-- what a check says of a list that a sum wrote
pub report_from-sums : (asked : CheckOptions) (form : Form) (contents : Contents) (list : List ℕ) (files : List File)
    → AsksAll asked → shows_name form ≡ true → contents list ≡ Some (flat_map (line_of form) files)
    → AllByRecursion (IsThere contents) files
    → report_from contents (check_script asked (Text list ∷ [])) ≡ oks_of files
report_from-sums asked form contents list files asks shows has is =
    report_from-checked asked contents list (flat_map (line_of form) files) (map entry_of files) asks has
    (Says-files form contents files shows is)
    ∙ ap (λ (r : Report). joined r (warning_report asked r.tally)) (verdicts_said-files asked contents files asks is)
    ∙ rw asks.status (λ i. record {
      out = append-nil (flat_map ok_of files) i;
      err = [];
      tally = tally_sum-none (all_ok (length files)) i;
    })

-- ---- a run over known contents

-- a run that is sure says what its script says over the contents
wrote_from : (told : Option Contents) (sure : Bool) (contents : Contents) (script : Script) (a b : IoState)
    (tally : Tally) (said : Report)
    → told ≡ Some contents → sure ≡ true → report_from contents script ≡ said
    → RanSurelyOver told sure script a b tally
    → Writes said a.out.held b.out.held a.err.held b.err.held (Ok tally)
wrote_from told sure contents script a b tally said tells is_sure is ran =
    let from : RanFrom contents script a b tally = rw (tells, is_sure) at ran in
    let Wrote_so : Report → Type 0 = λ p. Writes p a.out.held b.out.held a.err.held b.err.held (Ok tally) in
    subst Wrote_so is (from.out, from.err, from.counted)

pub wrote_surely : {S O E : Type 0} (s : ShelfWords S) (o : SinkWords O) (e : SinkWords E) (contents : Contents)
    (script : Script) (shelf shelf₂ : S) (out out₂ : O) (err err₂ : E) (result : Result Tally RunFault) (said : Report)
    → s.told shelf ≡ Some contents → s.is_sure shelf ≡ true → report_from contents script ≡ said
    → IfOk result (λ tally. RanSurely script (io_state s o e shelf out err) (io_state s o e shelf₂ out₂ err₂) tally)
    → IfOk result (λ tally. Writes said (o.held out) (o.held out₂) (e.held err) (e.held err₂) (Ok tally))
wrote_surely s o e contents script shelf shelf₂ out out₂ err err₂ (Ok tally) said tells is_sure is ran =
    wrote_from (s.told shelf) (s.is_sure shelf) contents script (io_state s o e shelf out err)
    (io_state s o e shelf₂ out₂ err₂) tally said tells is_sure is ran
wrote_surely s o e contents script shelf shelf₂ out out₂ err err₂ (Err fault) said tells is_sure is ran = tt
