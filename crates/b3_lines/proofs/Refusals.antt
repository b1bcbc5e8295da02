-- Which refusal of a line is the first: the tests that lead to each, and what a line that is not refused has passed.
use Rattle.std.proofs.Common.{◌≡◌, ℕ, ◌+◌, ◌-◌, ◌<◌, Bool, true, false, not, ◌&&◌, ◌==◌, List, [], ◌∷◌, length, take, drop, slice_index, Bor, Option, Some, None, cond, unwrap_or, refl, sym, ap, ◌∙◌, arith}
use Rattle.std.specs.Prelude.{IsUtf8, MatchOption, nat_eq, if◌then◌else◌}
use Rattle.std.specs.List.{list_all}
use Rattle.std.specs.Str.{is_utf8}
use Rattle.std.specs.Cmp.Lexicographic.{pointwise}
use Rattle.std.proofs.lemmas.List.{drop_all, drop_more}
use Rattle.std.proofs.lemmas.Str.{is_utf8-from_IsUtf8}
use Rattle.std.proofs.Math.Bool.{and-true}
use Rattle.std.proofs.lemmas.Bool.{cond-true, cond-false, not_from_false, not_from_true}
use Rattle.hex.specs.Hex.{is_hex_digit}
use Rattle.hex.proofs.HexLemmas.{decode_of-ok}
use Rattle.b3_lines.specs.declared.fault.LineFault.{LineFault}
use Rattle.b3_lines.specs.declared.fault.LineFault.TheVariants.{Empty, NotText, Short, NotDigits, NoSpaces, NoName, BadEscape, BadCharacter, Memory}
use Rattle.b3_lines.specs.Names.{has_bad_escape, holds_bad_character}
use Rattle.b3_lines.specs.Parts.{IsCut}
use Rattle.b3_lines.specs.Reading.{Layout, after_mark, first_refusal, has_mark, layout_of, name_of, refusal_after_mark, refusal_of, without_carriage_return}
use Rattle.b3_lines.proofs.DigitsAndSpaces.{list_all-AllPass}

-- six tests in a row
abbrev six : Bool → Bool → Bool → Bool → Bool → Bool → Option LineFault
six short digits spaced empty escape character =
    if short then Some Short
    else if not digits then Some NotDigits
    else if not spaced then Some NoSpaces
    else if empty then Some NoName
    else if escape then Some BadEscape
    else if character then Some BadCharacter
    else None

-- what passes all six
six-none : (short digits spaced empty escape character : Bool) → six short digits spaced empty escape character ≡ None
    → (short ≡ false) × (digits ≡ true) × (spaced ≡ true) × (empty ≡ false) × (escape ≡ false) × (character ≡ false)
six-none false true true false false false none = (refl, refl, refl, refl, refl, refl)
six-none true _ _ _ _ _ none = cc none
six-none false false _ _ _ _ none = cc none
six-none false true false _ _ _ none = cc none
six-none false true true true _ _ none = cc none
six-none false true true false true _ none = cc none
six-none false true true false false true none = cc none

-- none of the six is want of memory
six-not_memory : (short digits spaced empty escape character : Bool)
    → six short digits spaced empty escape character ≡ Some Memory → ⊥
six-not_memory true _ _ _ _ _ memory = cc memory
six-not_memory false false _ _ _ _ memory = cc memory
six-not_memory false true false _ _ _ memory = cc memory
six-not_memory false true true true _ _ memory = cc memory
six-not_memory false true true false true _ memory = cc memory
six-not_memory false true true false false true memory = cc memory
six-not_memory false true true false false false memory = cc memory

-- two tests before those
abbrev two : Bool → Bool → Option LineFault → Option LineFault
two empty utf8 later = if empty then Some Empty else if not utf8 then Some NotText else later

-- what passes both
two-none : (empty utf8 : Bool) (later : Option LineFault) → two empty utf8 later ≡ None
    → (empty ≡ false) × (utf8 ≡ true) × (later ≡ None)
two-none false true later none = (refl, refl, none)
two-none true _ later none = cc none
two-none false false later none = cc none

-- and neither are these two
two-not_memory : (empty utf8 : Bool) (later : Option LineFault) → (later ≡ Some Memory → ⊥)
    → two empty utf8 later ≡ Some Memory → ⊥
two-not_memory true _ later not_later memory = cc memory
two-not_memory false false later not_later memory = cc memory
two-not_memory false true later not_later memory = not_later memory

module _ (layout : Layout) where
  -- all tests are passed but those of the name
  pub record IsParted : Type 0 where
    pub long : layout.is_short ≡ false
    pub digits : list_all is_hex_digit layout.digits ≡ true
    pub parted : layout.has_separator ≡ true

  -- so they are by parts that were cut out
  pub IsParted-from_cut : {digest raw_name : List ℕ} → IsCut layout digest raw_name → IsParted
  IsParted-from_cut {digest} {raw_name} cut = record {
    long = cut.long;
    digits = list_all-AllPass layout.digits (decode_of-ok layout.digits digest cut.digits).1;
    parted = cut.parted;
  }

module _ (marked : Bool) (layout : Layout) where
  -- all tests are passed
  pub record IsPassed : Type 0 where
    pub has_separator : IsParted layout
    pub named : (length layout.raw_name == 0) ≡ false
    pub lawful : (marked && has_bad_escape layout.raw_name) ≡ false
    pub allowed : holds_bad_character (name_of marked layout.raw_name) ≡ false

  -- too few bytes
  pub refusal-short : layout.is_short ≡ true → refusal_of marked layout ≡ Some Short
  refusal-short short = cond-true _ _ _ short

  -- a byte in the place of a digit that is none
  pub refusal-not_digits : layout.is_short ≡ false → list_all is_hex_digit layout.digits ≡ false
      → refusal_of marked layout ≡ Some NotDigits
  refusal-not_digits long bad = cond-false _ _ _ long ∙ cond-true _ _ _ (not_from_false _ bad)

  -- not what must stand between digits and name
  pub refusal-no_spaces : layout.is_short ≡ false → list_all is_hex_digit layout.digits ≡ true
      → layout.has_separator ≡ false → refusal_of marked layout ≡ Some NoSpaces
  refusal-no_spaces long digits bad =
      cond-false _ _ _ long ∙ cond-false _ _ _ (not_from_true _ digits) ∙ cond-true _ _ _ (not_from_false _ bad)

  -- then three tests are left
  refusal-parted : IsParted layout → refusal_of marked layout
      ≡ (if length layout.raw_name == 0 then Some NoName
      else if marked && has_bad_escape layout.raw_name then Some BadEscape
      else if holds_bad_character (name_of marked layout.raw_name) then Some BadCharacter
      else None)
  refusal-parted is =
      cond-false _ _ _ is.long ∙ cond-false _ _ _ (not_from_true _ is.digits)
      ∙ cond-false _ _ _ (not_from_true _ is.parted)

  -- no name
  pub refusal-no_name : IsParted layout → (length layout.raw_name == 0) ≡ true → refusal_of marked layout ≡ Some NoName
  refusal-no_name is empty = refusal-parted is ∙ cond-true _ _ _ empty

  -- a bad escape in a marked line
  pub refusal-bad_escape : IsParted layout → (length layout.raw_name == 0) ≡ false
      → (marked && has_bad_escape layout.raw_name) ≡ true → refusal_of marked layout ≡ Some BadEscape
  refusal-bad_escape is named bad = refusal-parted is ∙ cond-false _ _ _ named ∙ cond-true _ _ _ bad

  -- NUL or U+FFFD in the name
  pub refusal-bad_character : IsParted layout → (length layout.raw_name == 0) ≡ false
      → (marked && has_bad_escape layout.raw_name) ≡ false
      → holds_bad_character (name_of marked layout.raw_name) ≡ true → refusal_of marked layout ≡ Some BadCharacter
  refusal-bad_character is named lawful bad =
      refusal-parted is ∙ cond-false _ _ _ named ∙ cond-false _ _ _ lawful ∙ cond-true _ _ _ bad

  -- what has passed all tests is not refused
  pub refusal-none : IsPassed → refusal_of marked layout ≡ None
  refusal-none passed =
      refusal-parted passed.has_separator ∙ cond-false _ _ _ passed.named ∙ cond-false _ _ _ passed.lawful
      ∙ cond-false _ _ _ passed.allowed

  -- what is not refused has passed all tests
  pub IsPassed-from_none : refusal_of marked layout ≡ None → IsPassed
  IsPassed-from_none none =
      let parts = six-none layout.is_short (list_all is_hex_digit layout.digits) layout.has_separator
      (length layout.raw_name == 0) (marked && has_bad_escape layout.raw_name)
      (holds_bad_character (name_of marked layout.raw_name)) none in
      record {
        has_separator = record { long = parts.0; digits = parts.1; parted = parts.2 };
        named = parts.3;
        lawful = parts.4;
        allowed = parts.5;
      }

-- what follows the mark is refused as its parts are
pub refusal_after_mark-of : (marked : Bool) (rest : List ℕ)
    → refusal_after_mark marked rest ≡ refusal_of marked (layout_of rest)
unfolding refusal_after_mark
refusal_after_mark-of marked rest = refl

module _ (line : List ℕ) where
  -- the line without its end
  abbrev text : List ℕ
  text = without_carriage_return line

  -- two tests come before those of what follows the mark
  first_refusal-two : first_refusal line
      ≡ two (length text == 0) (is_utf8 text) (refusal_after_mark (has_mark text) (after_mark text))
  unfolding first_refusal
  first_refusal-two = refl

  -- no bytes
  pub first_refusal-empty : (length text == 0) ≡ true → first_refusal line ≡ Some Empty
  first_refusal-empty empty = first_refusal-two ∙ cond-true _ _ _ empty

  -- bytes that are not UTF-8
  pub first_refusal-not_text : (length text == 0) ≡ false → is_utf8 text ≡ false → first_refusal line ≡ Some NotText
  first_refusal-not_text some bad = first_refusal-two ∙ cond-false _ _ _ some ∙ cond-true _ _ _ (not_from_false _ bad)

  -- a text is refused as what follows its mark is
  pub first_refusal-text : (length text == 0) ≡ false → is_utf8 text ≡ true
      → first_refusal line ≡ refusal_after_mark (has_mark text) (after_mark text)
  first_refusal-text some utf8 = first_refusal-two ∙ cond-false _ _ _ some ∙ cond-false _ _ _ (not_from_true _ utf8)

  -- a line that is not refused is text, and what follows its mark is not refused
  pub text-from_none : first_refusal line ≡ None
      → ((length text == 0) ≡ false) × (is_utf8 text ≡ true)
      × (refusal_after_mark (has_mark text) (after_mark text) ≡ None)
  text-from_none none = two-none _ _ _ (sym first_refusal-two ∙ none)

  -- want of memory is no refusal of a line
  pub first_refusal-not_memory : first_refusal line ≡ Some Memory → ⊥
  first_refusal-not_memory memory =
      two-not_memory _ _ _
      (λ later.
      let layout = layout_of (after_mark text) in
      six-not_memory layout.is_short (list_all is_hex_digit layout.digits) layout.has_separator
      (length layout.raw_name == 0) (has_mark text && has_bad_escape layout.raw_name)
      (holds_bad_character (name_of (has_mark text) layout.raw_name))
      (sym (refusal_after_mark-of (has_mark text) (after_mark text)) ∙ later))
      (sym first_refusal-two ∙ memory)

-- the first refusal of a text is that of what follows its mark
pub first_refusal-rest : (line text rest : List ℕ) (marked : Bool) → text ≡ without_carriage_return line → IsUtf8 text
    → (length text == 0) ≡ false
    → marked ≡ has_mark text → rest ≡ after_mark text → first_refusal line ≡ refusal_after_mark marked rest
first_refusal-rest line text rest marked text_is utf8 some mark_is rest_is =
    first_refusal-text line (ap (λ t. length t == 0) (sym text_is) ∙ some)
    (ap is_utf8 (sym text_is) ∙ is_utf8-from_IsUtf8 text utf8)
    ∙ ap (λ t. refusal_after_mark (has_mark t) (after_mark t)) (sym text_is)
    ∙ ap (λ m. refusal_after_mark m (after_mark text)) (sym mark_is) ∙ ap (refusal_after_mark marked) (sym rest_is)

-- a line that ends in a carriage return
ends-return : (line : List ℕ)
    → pointwise nat_eq (drop (length line - 1) line) (13 ∷ []) ≡ (slice_index line (length line - 1) == 13)
ends-return [] = refl
ends-return (b ∷ line) =
    let s = b ∷ line in
    let last : length s - 1 < length s = omega arith in
    let at_last = drop_more s (length s - 1) 0 last in
    let nothing = drop_all (length s - 1 + 1) s (omega arith) in
    ap (λ t. pointwise nat_eq t (13 ∷ [])) (at_last ∙ ap (λ t. slice_index s (length s - 1) ∷ t) nothing)
    ∙ and-true (slice_index s (length s - 1) == 13)

-- the line without its end, as a choice
pub without_carriage_return-cond : (line : List ℕ)
    → without_carriage_return line ≡ cond (slice_index line (length line - 1) == 13) (take (length line - 1) line) line
unfolding without_carriage_return
without_carriage_return-cond line = refl

-- what stripping it leaves
pub without_carriage_return-stripped : (line : List ℕ) (stripped : Option (Bor (List ℕ))) (whole : Bor (List ℕ))
    → whole.now ≡ line
    → MatchOption stripped (pointwise nat_eq (drop (length line - 1) line) (13 ∷ []) ≡ false)
    (λ x. (pointwise nat_eq (drop (length line - 1) line) (13 ∷ []) ≡ true) × (x.now ≡ take (length line - 1) line)
    × (length x.now + 1 ≡ length line))
    → (unwrap_or stripped whole).now ≡ without_carriage_return line
without_carriage_return-stripped line None whole same without =
    same ∙ sym (without_carriage_return-cond line ∙ cond-false _ _ _ (sym (ends-return line) ∙ without))
without_carriage_return-stripped line (Some x) whole same found =
    found.1 ∙ sym (without_carriage_return-cond line ∙ cond-true _ _ _ (sym (ends-return line) ∙ found.0))
