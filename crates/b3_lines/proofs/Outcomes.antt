-- What a line says where it is not refused, and that it says nothing else.
use Rattle.std.proofs.Common.{◌≡◌, ◌≢◌, ◌⊎◌, ℕ, Bool, true, false, ◌&&◌, ◌==◌, List, [], ◌∷◌, ◌++◌, length, drop, Option, Some, None, Ok, refl, sym, ap, subst, ◌∙◌, arith, append_assoc, inl, inr}
use Rattle.std.specs.Prelude.{IsUtf8, MatchOption}
use Rattle.std.specs.List.{list_all}
use Rattle.std.proofs.lemmas.Bool.{cases_Bool, cond-false, cond-true, eqb-false, eqb-true, ne_eqb}
use Rattle.std.proofs.lemmas.List.{nil_from_length}
use Rattle.std.proofs.lemmas.Str.{IsUtf8-from_is_utf8, is_utf8-from_IsUtf8}
use Rattle.hex.specs.Hex.{decode_of, is_hex_digit}
use Rattle.hex.proofs.HexLemmas.{decode_of-ok, decode_of-same}
use Rattle.b3_lines.specs.declared.fault.LineFault.{LineFault}
use Rattle.b3_lines.specs.Names.{Spells, has_bad_escape, holds_bad_character, unescaped}
use Rattle.b3_lines.specs.Reading.{AreDigits, HasOneOutcome, IsReadAs, Layout, Reads, ReadsTagged, SaysMarked, SaysMarkedTagged, SaysOne, SaysTagged, SaysUnmarked, after_mark, first_refusal, has_mark, is_tagged, layout_of, name_of, refusal_after_mark, shown_of, without_carriage_return}
use Rattle.b3_lines.specs.Parts.{HasParts}
use Rattle.b3_lines.specs.Writing.{spaces, tag_prefix, tag_separator}
use Rattle.b3_lines.proofs.DigitsAndSpaces.{digest-from_digits, list_all-AllPass}
use Rattle.b3_lines.proofs.Layouts.{LiesAs, LiesAs-plain, LiesAs-tagged, joined-plain, joined-tagged, length-layout_digits}
use Rattle.b3_lines.proofs.Escapes.{Spells-not_nil, Spells-unescaped, has_bad_escape-Spells, unescaped-Spells, unescaped-not_nil}
use Rattle.b3_lines.proofs.Refusals.{IsPassed, IsPassed-from_none, first_refusal-text, refusal-none, refusal_after_mark-of, text-from_none}

-- what follows the mark of a line
abbrev pub rest_of : List ℕ → List ℕ
rest_of line = after_mark (without_carriage_return line)

-- the name of a line as it stands
abbrev pub raw_name_of : List ℕ → List ℕ
raw_name_of line = (layout_of (rest_of line)).raw_name

-- what a line says, by its digits and the name as it stands
pub record SaysAs (line digest name shown : List ℕ) : Type 0 where
  pub accepted : first_refusal line ≡ None
  pub digits : decode_of (layout_of (rest_of line)).digits ≡ Ok digest
  pub name_is : name ≡ name_of (has_mark (without_carriage_return line)) (raw_name_of line)
  pub shown_is : shown ≡ shown_of (has_mark (without_carriage_return line)) (raw_name_of line)

-- ---- what is read is what the line says

-- a marked text is a `\` and what follows it
marked-cons : (text : List ℕ) → has_mark text ≡ true → text ≡ 92 ∷ drop 1 text
marked-cons [] marked = cc marked
marked-cons (b ∷ text) marked = ap (λ x. x ∷ text) (eqb-true b 92 marked)

-- a name of some length is not empty
not_nil : (name : List ℕ) → (length name == 0) ≡ false → name ≢ []
not_nil name named empty = eqb-false _ 0 named (ap length empty)

-- nor is it where its escapes are taken back
name_of-not_nil : (marked : Bool) (raw_name : List ℕ) → (length raw_name == 0) ≡ false → name_of marked raw_name ≢ []
name_of-not_nil true raw_name named = unescaped-not_nil raw_name (not_nil raw_name named)
name_of-not_nil false raw_name named = not_nil raw_name named

-- the parts of a text, marked or not
module _ (text digest digits raw_name : List ℕ) (are : AreDigits digits digest)
    (lawful : has_mark text ≡ true → has_bad_escape raw_name ≡ false) where
  -- its name, and the name shown
  abbrev its_name : List ℕ
  its_name = name_of (has_mark text) raw_name

  abbrev its_shown : List ℕ
  its_shown = shown_of (has_mark text) raw_name

  -- a marked one spells its name
  spells : has_mark text ≡ true → Spells raw_name its_name
  spells marked =
      subst (Spells raw_name) (sym (cond-true (has_mark text) (unescaped raw_name) raw_name marked))
      (Spells-unescaped raw_name (lawful marked))

  -- the name of another stands as it is
  name-unmarked : has_mark text ≡ false → raw_name ≡ its_name
  name-unmarked unmarked = sym (cond-false (has_mark text) (unescaped raw_name) raw_name unmarked)

  -- and is shown so
  shown-unmarked : has_mark text ≡ false → its_shown ≡ its_name
  shown-unmarked unmarked = cond-false (has_mark text) (92 ∷ raw_name) raw_name unmarked ∙ name-unmarked unmarked

  -- what a marked text begins with
  whole-marked : has_mark text ≡ true → text ≡ 92 ∷ after_mark text
  whole-marked marked =
      marked-cons text marked ∙ ap (λ t. 92 ∷ t) (sym (cond-true (has_mark text) (drop 1 text) text marked))

  -- what another is
  whole-unmarked : has_mark text ≡ false → text ≡ after_mark text
  whole-unmarked unmarked = sym (cond-false (has_mark text) (drop 1 text) text unmarked)

  -- digits, two spaces and a name
  says-plain : after_mark text ≡ digits ++ spaces ++ raw_name
      → SaysUnmarked text digest its_name its_shown ⊎ SaysMarked text digest its_name its_shown
  says-plain joined =
      elim (cases_Bool (has_mark text)) [
        | inl marked ↦ inr (record {
          digits = digits;
          raw_name = raw_name;
          digits_are = are;
          text_is = whole-marked marked ∙ ap (λ t. 92 ∷ t) joined;
          spells = spells marked;
          shown_is = cond-true (has_mark text) (92 ∷ raw_name) raw_name marked;
        })
        | inr unmarked ↦ inl (record {
          digits = digits;
          digits_are = are;
          text_is = whole-unmarked unmarked ∙ joined ∙ ap (λ t. digits ++ spaces ++ t) (name-unmarked unmarked);
          shown_is = shown-unmarked unmarked;
        })
      ]

  -- `BLAKE3 (`, a name, `) = ` and digits
  says-tagged : after_mark text ≡ tag_prefix ++ raw_name ++ tag_separator ++ digits
      → SaysTagged text digest its_name its_shown ⊎ SaysMarkedTagged text digest its_name its_shown
  says-tagged joined =
      elim (cases_Bool (has_mark text)) [
        | inl marked ↦ inr (record {
          digits = digits;
          raw_name = raw_name;
          digits_are = are;
          text_is = whole-marked marked ∙ ap (λ t. 92 ∷ t) joined;
          spells = spells marked;
          shown_is = cond-true (has_mark text) (92 ∷ raw_name) raw_name marked;
        })
        | inr unmarked ↦ inl (record {
          digits = digits;
          digits_are = are;
          text_is = whole-unmarked unmarked ∙ joined
              ∙ ap (λ t. tag_prefix ++ t ++ tag_separator ++ digits) (name-unmarked unmarked);
          shown_is = shown-unmarked unmarked;
        })
      ]

-- a line that is not refused says its digits and its name
pub IsReadAs-from_none : (line digest : List ℕ) → first_refusal line ≡ None
    → decode_of (layout_of (rest_of line)).digits ≡ Ok digest
    → IsReadAs line digest (name_of (has_mark (without_carriage_return line)) (raw_name_of line))
    (shown_of (has_mark (without_carriage_return line)) (raw_name_of line))
IsReadAs-from_none line digest none ok =
    let text = without_carriage_return line in
    let rest = rest_of line in
    let layout = layout_of rest in
    let parts = text-from_none line none in
    let passed =
    IsPassed-from_none (has_mark text) layout (sym (refusal_after_mark-of (has_mark text) rest) ∙ parts.2) in
    let digits : AreDigits layout.digits digest =
    record { count = length-layout_digits rest passed.has_separator.long; value = ok } in
    let lawful : has_mark text ≡ true → has_bad_escape layout.raw_name ≡ false =
    λ marked. sym (ap (λ m. m && has_bad_escape layout.raw_name) marked) ∙ passed.lawful in
    elim (cases_Bool (is_tagged rest)) [
      | inl tagged ↦ inr (record {
        says = says-tagged text digest layout.digits layout.raw_name digits lawful
            (joined-tagged rest tagged passed.has_separator.long passed.has_separator.parted);
        is_text = IsUtf8-from_is_utf8 text parts.1;
        is_named = name_of-not_nil (has_mark text) layout.raw_name passed.named;
        is_lawful = passed.allowed;
      })
      | inr untagged ↦ inl (record {
        says = says-plain text digest layout.digits layout.raw_name digits lawful
            (joined-plain rest untagged passed.has_separator.parted);
        is_text = IsUtf8-from_is_utf8 text parts.1;
        is_named = name_of-not_nil (has_mark text) layout.raw_name passed.named;
        is_lawful = passed.allowed;
      })
    ]

-- ---- what the line says is what is read

-- digits and a lawful name pass the tests
IsPassed-from_digits : (marked : Bool) (layout : Layout) (digits digest raw_name : List ℕ) → AreDigits digits digest
    → LiesAs layout digits raw_name → raw_name ≢ [] → (marked && has_bad_escape raw_name) ≡ false
    → holds_bad_character (name_of marked raw_name) ≡ false
    → IsPassed marked layout
IsPassed-from_digits marked layout digits digest raw_name are lies some lawful allowed = record {
  has_separator = record {
    long = lies.long;
    digits = ap (list_all is_hex_digit) lies.digits_are
        ∙ list_all-AllPass digits (decode_of-ok digits digest are.value).1;
    parted = lies.parted;
  };
  named = ap (λ t. length t == 0) lies.spelled_is
      ∙ ne_eqb (length raw_name) 0 (λ none. some (nil_from_length raw_name none));
  lawful = ap (λ t. marked && has_bad_escape t) lies.spelled_is ∙ lawful;
  allowed = ap (λ t. holds_bad_character (name_of marked t)) lies.spelled_is ∙ allowed;
}

-- a line of a mark and of parts that lie so
says_as : (line digest name shown digits raw_name rest : List ℕ) (marked : Bool)
    → has_mark (without_carriage_return line) ≡ marked
    → after_mark (without_carriage_return line) ≡ rest → (length (without_carriage_return line) == 0) ≡ false
    → IsUtf8 (without_carriage_return line)
    → AreDigits digits digest → LiesAs (layout_of rest) digits raw_name → raw_name ≢ []
    → (marked && has_bad_escape raw_name) ≡ false
    → holds_bad_character name ≡ false → name ≡ name_of marked raw_name → shown ≡ shown_of marked raw_name
    → SaysAs line digest name shown
says_as line digest name shown digits raw_name rest marked mark_is rest_is filled utf8 are lies some lawful allowed
    name_is shown_is =
    let text = without_carriage_return line in
    let passed = IsPassed-from_digits marked (layout_of rest) digits digest raw_name are lies some lawful
    (ap holds_bad_character (sym name_is) ∙ allowed) in
    let stands : raw_name ≡ raw_name_of line = sym (ap (λ r. (layout_of r).raw_name) rest_is ∙ lies.spelled_is) in
    record {
      accepted =
          first_refusal-text line filled (is_utf8-from_IsUtf8 text utf8)
          ∙ ap (λ m. refusal_after_mark m (after_mark text)) mark_is ∙ ap (refusal_after_mark marked) rest_is
          ∙ refusal_after_mark-of marked rest ∙ refusal-none marked (layout_of rest) passed;
      digits = ap (λ r. decode_of (layout_of r).digits) rest_is ∙ ap decode_of lies.digits_are ∙ are.value;
      name_is = name_is ∙ ap (name_of marked) stands ∙ ap (λ m. name_of m (raw_name_of line)) (sym mark_is);
      shown_is = shown_is ∙ ap (shown_of marked) stands ∙ ap (λ m. shown_of m (raw_name_of line)) (sym mark_is);
    }

-- digits begin with no mark
pub has_mark-digits : (digits digest tail : List ℕ) → AreDigits digits digest → has_mark (digits ++ tail) ≡ false
has_mark-digits [] digest tail are = absurd (omega (arith, are.count))
has_mark-digits (b ∷ digits) digest tail are =
    let first : is_hex_digit b ≡ true = (decode_of-ok (b ∷ digits) digest are.value).1 0 0 (omega arith) in
    ne_eqb b 92 (λ is. cc (sym first ∙ ap is_hex_digit is))

-- and are not empty
filled-digits : (digits digest tail : List ℕ) → AreDigits digits digest → (length (digits ++ tail) == 0) ≡ false
filled-digits [] digest tail are = absurd (omega (arith, are.count))
filled-digits (b ∷ digits) digest tail are = ne_eqb _ 0 (λ none. absurd (omega (arith, none)))

-- what begins with a byte is not empty
filled-cons : (b : ℕ) (tail : List ℕ) → (length (b ∷ tail) == 0) ≡ false
filled-cons b tail = ne_eqb _ 0 (λ none. absurd (omega (arith, none)))

-- so is a tagged line
filled-tagged : (name digits : List ℕ) → (length (tag_prefix ++ name ++ tag_separator ++ digits) == 0) ≡ false
filled-tagged name digits = ne_eqb _ 0 (λ none. absurd (omega (arith, none)))

-- what a plain line says, it says by its digits and its name as it stands
SaysAs-from_Reads : (line digest name shown : List ℕ) → Reads line digest name shown → SaysAs line digest name shown
SaysAs-from_Reads line digest name shown reads =
    let text = without_carriage_return line in
    elim reads.says [
      | inl says ↦
          let whole : text ≡ says.digits ++ (spaces ++ name) = says.text_is ∙ append_assoc says.digits spaces name in
          let mark_is : has_mark text ≡ false =
          ap has_mark whole ∙ has_mark-digits says.digits digest (spaces ++ name) says.digits_are in
          says_as line digest name shown says.digits name text false mark_is (cond-false (has_mark text) _ _ mark_is)
          (ap (λ t. length t == 0) whole ∙ filled-digits says.digits digest (spaces ++ name) says.digits_are)
          reads.is_text says.digits_are (LiesAs-plain text says.digits digest name says.digits_are says.text_is)
          reads.is_named refl reads.is_lawful refl says.shown_is
      | inr says ↦
          let rest = says.digits ++ spaces ++ says.raw_name in
          let mark_is : has_mark text ≡ true = ap has_mark says.text_is in
          says_as line digest name shown says.digits says.raw_name rest true mark_is
          (cond-true (has_mark text) _ _ mark_is ∙ ap (drop 1) says.text_is)
          (ap (λ t. length t == 0) says.text_is ∙ filled-cons 92 rest)
          reads.is_text says.digits_are (LiesAs-plain rest says.digits digest says.raw_name says.digits_are refl)
          (Spells-not_nil says.spells reads.is_named) (has_bad_escape-Spells says.spells)
          reads.is_lawful (sym (unescaped-Spells says.spells)) says.shown_is
    ]

-- so does a tagged one
SaysAs-from_ReadsTagged : (line digest name shown : List ℕ) → ReadsTagged line digest name shown
    → SaysAs line digest name shown
SaysAs-from_ReadsTagged line digest name shown reads =
    let text = without_carriage_return line in
    elim reads.says [
      | inl says ↦
          let mark_is : has_mark text ≡ false = ap has_mark says.text_is in
          says_as line digest name shown says.digits name text false mark_is (cond-false (has_mark text) _ _ mark_is)
          (ap (λ t. length t == 0) says.text_is ∙ filled-tagged name says.digits)
          reads.is_text says.digits_are (LiesAs-tagged text says.digits name says.text_is says.digits_are.count)
          reads.is_named refl reads.is_lawful refl says.shown_is
      | inr says ↦
          let rest = tag_prefix ++ says.raw_name ++ tag_separator ++ says.digits in
          let mark_is : has_mark text ≡ true = ap has_mark says.text_is in
          says_as line digest name shown says.digits says.raw_name rest true mark_is
          (cond-true (has_mark text) _ _ mark_is ∙ ap (drop 1) says.text_is)
          (ap (λ t. length t == 0) says.text_is ∙ filled-cons 92 rest)
          reads.is_text says.digits_are (LiesAs-tagged rest says.digits says.raw_name refl says.digits_are.count)
          (Spells-not_nil says.spells reads.is_named) (has_bad_escape-Spells says.spells)
          reads.is_lawful (sym (unescaped-Spells says.spells)) says.shown_is
    ]

-- so does a line of either form
pub SaysAs-from_IsReadAs : (line digest name shown : List ℕ) → IsReadAs line digest name shown
    → SaysAs line digest name shown
SaysAs-from_IsReadAs line digest name shown reads = elim reads [
  | inl plain ↦ SaysAs-from_Reads line digest name shown plain
  | inr tagged ↦ SaysAs-from_ReadsTagged line digest name shown tagged
]

-- and what it says so, it says
pub IsReadAs-from_SaysAs : (line digest name shown : List ℕ) → SaysAs line digest name shown
    → IsReadAs line digest name shown
IsReadAs-from_SaysAs line digest name shown said =
    rw (said.name_is, said.shown_is) (IsReadAs-from_none line digest said.accepted said.digits)

-- a line says one thing
pub SaysAs-same : (line digest name shown digest₂ name₂ shown₂ : List ℕ) → SaysAs line digest name shown
    → SaysAs line digest₂ name₂ shown₂ → (digest ≡ digest₂) × (name ≡ name₂) × (shown ≡ shown₂)
SaysAs-same line digest name shown digest₂ name₂ shown₂ one two = (
  decode_of-same _ digest digest₂ one.digits two.digits,
  one.name_is ∙ sym two.name_is,
  one.shown_is ∙ sym two.shown_is,
)

-- the parts of a line, and what is made of them
pub SaysAs-from_parts : (line digest raw_name name shown : List ℕ) (marked : Bool) (escapes : ℕ)
    → HasParts line digest raw_name marked escapes
    → name ≡ name_of marked raw_name → shown ≡ shown_of marked raw_name → SaysAs line digest name shown
SaysAs-from_parts line digest raw_name name shown marked escapes has name_is shown_is =
    let stands = raw_name_of line in
    record {
      accepted = has.accepted;
      digits = has.parts.digits;
      name_is = name_is ∙ ap (name_of marked) has.parts.spelling ∙ ap (λ m. name_of m stands) has.mark;
      shown_is = shown_is ∙ ap (shown_of marked) has.parts.spelling ∙ ap (λ m. shown_of m stands) has.mark;
    }

-- ---- one outcome

-- a line that is not refused says one thing
pub SaysOne-from_none : (line digest : List ℕ) → first_refusal line ≡ None
    → decode_of (layout_of (rest_of line)).digits ≡ Ok digest → SaysOne line
SaysOne-from_none line digest none ok = record {
  digest = digest;
  name = name_of (has_mark (without_carriage_return line)) (raw_name_of line);
  shown = shown_of (has_mark (without_carriage_return line)) (raw_name_of line);
  reads = IsReadAs-from_none line digest none ok;
  only = λ d n s reads.
      let said = SaysAs-from_IsReadAs line d n s reads in
      (decode_of-same _ d digest said.digits ok, said.name_is, said.shown_is);
}

-- the digits of a line that is not refused decode
digest_of : (line : List ℕ) → first_refusal line ≡ None
    → (digest : List ℕ) × (decode_of (layout_of (rest_of line)).digits ≡ Ok digest)
digest_of line none =
    let mark = has_mark (without_carriage_return line) in
    let rest = rest_of line in
    let passed = IsPassed-from_none mark (layout_of rest)
    (sym (refusal_after_mark-of mark rest) ∙ (text-from_none line none).2) in
    digest-from_digits (layout_of rest).digits (length-layout_digits rest passed.has_separator.long)
    passed.has_separator.digits

-- the outcome of a line, by its first refusal
one_outcome_at : (line : List ℕ) (refusal : Option LineFault) → first_refusal line ≡ refusal
    → MatchOption refusal (SaysOne line) (λ _. (digest name shown : List ℕ) → ¬ IsReadAs line digest name shown)
one_outcome_at line None none =
    let found = digest_of line none in
    SaysOne-from_none line found.0 none found.1
one_outcome_at line (Some fault) refused = λ digest name shown reads.
    cc (sym refused ∙ (SaysAs-from_IsReadAs line digest name shown reads).accepted)

-- each line is refused by one fault, or says one thing, and never both
pub one_outcome : (line : List ℕ) → HasOneOutcome line
one_outcome line = one_outcome_at line (first_refusal line) refl
