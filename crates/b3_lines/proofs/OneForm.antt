-- No line is read both ways.
use Rattle.std.proofs.Common.{◌≡◌, ◌≢◌, ℕ, ◌-◌, ◌<◌, ◌≤◌, true, false, ◌==◌, List, ◌++◌, length, take, drop, slice_index, sym, ap, ◌∙◌, arith, append_assoc, inl, inr}
use Rattle.std.proofs.lemmas.Bool.{both_ways, cases_Bool, cond-false, cond-true}
use Rattle.std.proofs.lemmas.List.{get_or_append_left, get_or-take, length-append, length-take-le}
use Rattle.hex.specs.Hex.{is_hex_digit}
use Rattle.hex.proofs.HexLemmas.{decode_of-ok}
use Rattle.b3_lines.specs.Reading.{HasOneForm, Reads, ReadsTagged, after_mark, has_mark, is_tagged}
use Rattle.b3_lines.specs.Reading.{without_carriage_return}
use Rattle.b3_lines.specs.Writing.{spaces, tag_prefix, tag_separator}
use Rattle.b3_lines.proofs.Layouts.{is_tagged-digits, is_tagged-tag_prefix}
use Rattle.b3_lines.proofs.Outcomes.{has_mark-digits}
use Rattle.b3_lines.proofs.Refusals.{without_carriage_return-cond}

-- ---- a line and what is left of it

-- what is left without the carriage return at the end begins as the line does
slice_index-without_carriage_return : (line : List ℕ) (k : ℕ) → k < length (without_carriage_return line)
    → slice_index (without_carriage_return line) k ≡ slice_index line k
slice_index-without_carriage_return line k within =
    let last = length line - 1 in
    let is = without_carriage_return-cond line in
    elim (cases_Bool (slice_index line last == 13)) [
      | inl ends ↦
          let front : without_carriage_return line ≡ take last line = is ∙ cond-true _ (take last line) line ends in
          let count = length-take-le last line (omega arith) in
          ap (λ t. slice_index t k) front ∙ get_or-take last line k 0 (omega (arith, within, ap length front, count))
      | inr other ↦ ap (λ t. slice_index t k) (is ∙ cond-false _ (take last line) line other)
    ]

-- ---- a plain line is not tagged

-- what follows the mark of a plain line does not begin with `BLAKE3 (`
is_tagged-Reads : (line digest name shown : List ℕ) → Reads line digest name shown
    → is_tagged (after_mark (without_carriage_return line)) ≡ false
is_tagged-Reads line digest name shown reads =
    let text = without_carriage_return line in
    elim reads.says [
      | inl says ↦
          let whole : text ≡ says.digits ++ (spaces ++ name) = says.text_is ∙ append_assoc says.digits spaces name in
          let unmarked : has_mark text ≡ false =
          ap has_mark whole ∙ has_mark-digits says.digits digest (spaces ++ name) says.digits_are in
          ap is_tagged (cond-false (has_mark text) (drop 1 text) text unmarked ∙ whole)
          ∙ is_tagged-digits says.digits digest (spaces ++ name) says.digits_are
      | inr says ↦
          let marked : has_mark text ≡ true = ap has_mark says.text_is in
          ap is_tagged (cond-true (has_mark text) (drop 1 text) text marked ∙ ap (drop 1) says.text_is
          ∙ append_assoc says.digits spaces says.raw_name)
          ∙ is_tagged-digits says.digits digest (spaces ++ says.raw_name) says.digits_are
    ]

-- what follows the mark of a tagged line does
is_tagged-ReadsTagged : (line digest name shown : List ℕ) → ReadsTagged line digest name shown
    → is_tagged (after_mark (without_carriage_return line)) ≡ true
is_tagged-ReadsTagged line digest name shown reads =
    let text = without_carriage_return line in
    elim reads.says [
      | inl says ↦
          let unmarked : has_mark text ≡ false = ap has_mark says.text_is in
          is_tagged-tag_prefix (after_mark text) (name ++ (tag_separator ++ says.digits))
          (cond-false (has_mark text) (drop 1 text) text unmarked ∙ says.text_is
          ∙ append_assoc (tag_prefix ++ name) tag_separator says.digits
          ∙ append_assoc tag_prefix name (tag_separator ++ says.digits))
      | inr says ↦
          let marked : has_mark text ≡ true = ap has_mark says.text_is in
          is_tagged-tag_prefix (after_mark text) (says.raw_name ++ (tag_separator ++ says.digits))
          (cond-true (has_mark text) (drop 1 text) text marked ∙ ap (drop 1) says.text_is
          ∙ append_assoc (tag_prefix ++ says.raw_name) tag_separator says.digits
          ∙ append_assoc tag_prefix says.raw_name (tag_separator ++ says.digits))
    ]

-- a plain line does not begin with `BLAKE3 (`: its first byte is `\`, or its second one a digit
plain-untagged : (line digest name shown rest : List ℕ) → Reads line digest name shown → line ≢ tag_prefix ++ rest
plain-untagged line digest name shown rest reads begins =
    let text = without_carriage_return line in
    elim reads.says [
      | inl says ↦
          let whole : text ≡ says.digits ++ (spaces ++ name) = says.text_is ∙ append_assoc says.digits spaces name in
          let count = says.digits_are.count in
          let long : 64 ≤ length text =
          omega (arith, ap length whole, length-append says.digits (spaces ++ name), count) in
          let second : slice_index text 1 ≡ 76 =
          slice_index-without_carriage_return line 1 (omega (arith, long)) ∙ ap (λ t. slice_index t 1) begins in
          let digit : is_hex_digit (slice_index says.digits 1) ≡ true =
          (decode_of-ok says.digits digest says.digits_are.value).1 1 0 (omega (arith, count)) in
          let same : slice_index text 1 ≡ slice_index says.digits 1 =
          ap (λ t. slice_index t 1) whole
          ∙ get_or_append_left says.digits (spaces ++ name) 0 1 (omega (arith, count)) in
          cc (sym digit ∙ ap is_hex_digit (sym same ∙ second))
      | inr says ↦
          let some : 0 < length text = omega (arith, ap length says.text_is) in
          let first : 92 ≡ 66 = sym (ap (λ t. slice_index t 0) says.text_is)
          ∙ slice_index-without_carriage_return line 0 some ∙ ap (λ t. slice_index t 0) begins in
          absurd (omega (arith, first))
    ]

-- so no line is read both ways
pub one_form : (line : List ℕ) → HasOneForm line
one_form line = record {
  plain = λ digest name shown rest reads. plain-untagged line digest name shown rest reads;
  one = λ digest name shown d n s reads tagged.
      both_ways _ (is_tagged-Reads line digest name shown reads) (is_tagged-ReadsTagged line d n s tagged);
}
