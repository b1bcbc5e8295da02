-- How the parts of a line lie in what follows its mark.
use Rattle.std.proofs.Common.{◌≡◌, ℕ, ◌+◌, ◌-◌, ◌≤◌, true, false, List, [], ◌∷◌, ◌++◌, length, take, drop, slice_index, refl, sym, ap, subst, ◌∙◌, arith, append_assoc, inl, inr}
use Rattle.std.specs.Prelude.{IsCharBoundary, IsUtf8, bytes_eq}
use Rattle.std.proofs.lemmas.Bool.{cases_Bool, cond-false, cond-true, false_from_ne_true, le-ltb, ltb-false}
use Rattle.std.proofs.lemmas.Bool.Decides.{Decides-eqb}
use Rattle.std.proofs.lemmas.List.{drop-drop, drop_at, get_or-drop, get_or-take, length-append, length-drop, length-take-le, take-append-drop, take_at}
use Rattle.std.proofs.lemmas.Slice.Eq.{bytes_eq-Decides, starts_is}
use Rattle.std.proofs.lemmas.Str.{IsCharBoundary-after_ascii, IsCharBoundary-before_ascii}
use Rattle.hex.specs.Hex.{is_hex_digit}
use Rattle.hex.proofs.HexLemmas.{decode_of-ok}
use Rattle.b3_lines.specs.Reading.{AreDigits, Layout, is_tagged, layout_of, plain_layout, tagged_layout}
use Rattle.b3_lines.specs.Writing.{spaces, tag_prefix, tag_separator}
use Rattle.b3_lines.proofs.DigitsAndSpaces.{cut-digits, cut-name, cut-rest, join-spaced}

-- parts lie so that none is missing, and these are the digits and the name as it stands
pub record LiesAs (layout : Layout) (digits raw_name : List ℕ) : Type 0 where
  pub long : layout.is_short ≡ false
  pub digits_are : layout.digits ≡ digits
  pub parted : layout.has_separator ≡ true
  pub spelled_is : layout.raw_name ≡ raw_name

-- ---- which form is read

-- what begins with `BLAKE3 (` is it and what follows
pub is_tagged-append : (rest : List ℕ) → is_tagged rest ≡ true → rest ≡ tag_prefix ++ drop 8 rest
is_tagged-append rest tagged = (starts_is Decides-eqb rest tag_prefix (is_tagged rest) refl).0 tagged

-- and is read as tagged
pub is_tagged-tag_prefix : (rest behind : List ℕ) → rest ≡ tag_prefix ++ behind → is_tagged rest ≡ true
is_tagged-tag_prefix rest behind whole = (starts_is Decides-eqb rest tag_prefix (is_tagged rest) refl).1 behind whole

-- digits do not begin with `BLAKE3 (`, as `L` is no digit
pub is_tagged-digits : (digits digest behind : List ℕ) → AreDigits digits digest → is_tagged (digits ++ behind) ≡ false
is_tagged-digits [] digest behind are = absurd (omega (arith, are.count))
is_tagged-digits (a ∷ []) digest behind are = absurd (omega (arith, are.count))
is_tagged-digits (a ∷ b ∷ digits) digest behind are =
    let second : is_hex_digit b ≡ true = (decode_of-ok (a ∷ b ∷ digits) digest are.value).1 1 0 (omega arith) in
    false_from_ne_true _ (λ tagged.
    let whole = is_tagged-append (a ∷ b ∷ digits ++ behind) tagged in
    let is : b ≡ 76 = ap (λ t. slice_index t 1) whole in
    cc (sym second ∙ ap is_hex_digit is))

-- the parts of a plain line
pub layout_of-plain : (rest : List ℕ) → is_tagged rest ≡ false → layout_of rest ≡ plain_layout rest
layout_of-plain rest untagged = cond-false (is_tagged rest) (tagged_layout rest) (plain_layout rest) untagged

-- and of a tagged one
pub layout_of-tagged : (rest : List ℕ) → is_tagged rest ≡ true → layout_of rest ≡ tagged_layout rest
layout_of-tagged rest tagged = cond-true (is_tagged rest) (tagged_layout rest) (plain_layout rest) tagged

-- ---- plain

-- digits, two spaces and a name
pub LiesAs-plain : (rest digits digest raw_name : List ℕ) → AreDigits digits digest
    → rest ≡ digits ++ spaces ++ raw_name
    → LiesAs (layout_of rest) digits raw_name
LiesAs-plain rest digits digest raw_name are whole =
    let untagged : is_tagged rest ≡ false = ap is_tagged (whole ∙ append_assoc digits spaces raw_name)
    ∙ is_tagged-digits digits digest (spaces ++ raw_name) are in
    let count = are.count in
    let two : take 2 (drop 64 rest) ≡ spaces =
    ap (λ t. take 2 (drop 64 t)) whole ∙ ap (take 2) (cut-rest digits raw_name count) in
    let whole_length = ap length whole in
    let parts = length-append (digits ++ spaces) raw_name in
    let front = length-append digits spaces in
    subst (λ (layout : Layout). LiesAs layout digits raw_name) (sym (layout_of-plain rest untagged)) (record {
      long = le-ltb (length rest) 66 (omega (arith, whole_length, parts, front, count));
      digits_are = ap (take 64) whole ∙ cut-digits digits raw_name count;
      parted = (bytes_eq-Decides (take 2 (drop 64 rest)) spaces).1 two;
      spelled_is = ap (drop 66) whole ∙ cut-name digits raw_name count;
    })

-- ---- tagged

-- the parts of a tagged line, cut up
module _ (rest digits raw_name : List ℕ) (whole : rest ≡ tag_prefix ++ raw_name ++ tag_separator ++ digits)
    (count : length digits ≡ 64) where
  -- how long it is
  length-tagged : length rest ≡ length raw_name + 76
  length-tagged =
      let all = length-append (tag_prefix ++ raw_name ++ tag_separator) digits in
      let front = length-append (tag_prefix ++ raw_name) tag_separator in
      let named = length-append tag_prefix raw_name in
      omega (arith, ap length whole, all, front, named, count)

  -- the digits are at its end
  drop-tagged_digits : drop (length rest - 64) rest ≡ digits
  drop-tagged_digits =
      let front = length-append (tag_prefix ++ raw_name) tag_separator in
      let named = length-append tag_prefix raw_name in
      ap (drop (length rest - 64)) whole
      ∙ drop_at (tag_prefix ++ raw_name ++ tag_separator) digits (length rest - 64)
      (omega (arith, length-tagged, front, named))

  -- `) = ` stands in front of them
  take-tagged_closing : take 4 (drop (length rest - 64 - 4) rest) ≡ tag_separator
  take-tagged_closing =
      let named = length-append tag_prefix raw_name in
      ap (λ t. take 4 (drop (length rest - 64 - 4) t))
      (whole ∙ append_assoc (tag_prefix ++ raw_name) tag_separator digits)
      ∙ ap (take 4) (drop_at (tag_prefix ++ raw_name) (tag_separator ++ digits) (length rest - 64 - 4)
      (omega (arith, length-tagged, named)))
      ∙ take_at tag_separator digits 4 refl

  -- and the name in front of that
  take-tagged_name : take (length rest - 64 - 12) (drop 8 rest) ≡ raw_name
  take-tagged_name =
      let parts : rest ≡ tag_prefix ++ (raw_name ++ (tag_separator ++ digits)) =
      whole ∙ append_assoc (tag_prefix ++ raw_name) tag_separator digits
      ∙ append_assoc tag_prefix raw_name (tag_separator ++ digits) in
      ap (λ t. take (length rest - 64 - 12) (drop 8 t)) parts
      ∙ ap (take (length rest - 64 - 12)) (drop_at tag_prefix (raw_name ++ (tag_separator ++ digits)) 8 refl)
      ∙ take_at raw_name (tag_separator ++ digits) (length rest - 64 - 12) (omega (arith, length-tagged))

  -- so they lie
  pub LiesAs-tagged : LiesAs (layout_of rest) digits raw_name
  LiesAs-tagged =
      let parts : rest ≡ tag_prefix ++ (raw_name ++ (tag_separator ++ digits)) =
      whole ∙ append_assoc (tag_prefix ++ raw_name) tag_separator digits
      ∙ append_assoc tag_prefix raw_name (tag_separator ++ digits) in
      let tagged = is_tagged-tag_prefix rest (raw_name ++ (tag_separator ++ digits)) parts in
      subst (λ (layout : Layout). LiesAs layout digits raw_name) (sym (layout_of-tagged rest tagged)) (record {
        long = le-ltb (length rest) 76 (omega (arith, length-tagged));
        digits_are = drop-tagged_digits;
        parted = (bytes_eq-Decides (take 4 (drop (length rest - 64 - 4) rest)) tag_separator).1 take-tagged_closing;
        spelled_is = take-tagged_name;
      })

-- what is long enough, and has `BLAKE3 (` in front and `) = ` before its last 64 bytes, is put together of its parts
pub join-tagged : (rest : List ℕ) → is_tagged rest ≡ true → 76 ≤ length rest
    → bytes_eq (take 4 (drop (length rest - 64 - 4) rest)) tag_separator ≡ true
    → rest ≡ tag_prefix ++ take (length rest - 64 - 12) (drop 8 rest) ++ tag_separator ++ drop (length rest - 64) rest
join-tagged rest tagged long parted =
    let start = length rest - 64 in
    let behind = drop 8 rest in
    let name = take (start - 12) behind in
    let four = (bytes_eq-Decides (take 4 (drop (start - 4) rest)) tag_separator).0 parted in
    let to_closing : 8 + (start - 12) ≡ start - 4 = omega (arith, long) in
    let to_digits : start - 4 + 4 ≡ start = omega (arith, long) in
    let closed : drop (start - 12) behind ≡ drop (start - 4) rest =
    drop-drop (start - 12) 8 rest ∙ ap (λ n. drop n rest) to_closing in
    let terminated : drop 4 (drop (start - 4) rest) ≡ drop start rest =
    drop-drop 4 (start - 4) rest ∙ ap (λ n. drop n rest) to_digits in
    let tail : drop (start - 4) rest ≡ tag_separator ++ drop start rest =
    sym (take-append-drop 4 (drop (start - 4) rest)) ∙ ap (λ t. t ++ drop 4 (drop (start - 4) rest)) four
    ∙ ap (λ t. tag_separator ++ t) terminated in
    let inner : behind ≡ name ++ (tag_separator ++ drop start rest) =
    sym (take-append-drop (start - 12) behind) ∙ ap (λ t. name ++ t) (closed ∙ tail) in
    is_tagged-append rest tagged ∙ ap (λ t. tag_prefix ++ t) inner
    ∙ sym (append_assoc tag_prefix name (tag_separator ++ drop start rest))
    ∙ sym (append_assoc (tag_prefix ++ name) tag_separator (drop start rest))

-- ---- of either form

-- the digits are 64, where no part is missing
pub length-layout_digits : (rest : List ℕ) → (layout_of rest).is_short ≡ false → length (layout_of rest).digits ≡ 64
length-layout_digits rest long =
    elim (cases_Bool (is_tagged rest)) [
      | inl tagged ↦
          let is = layout_of-tagged rest tagged in
          let enough = ltb-false (length rest) 76 (sym (ap (λ (l : Layout). l.is_short) is) ∙ long) in
          ap (λ (l : Layout). length l.digits) is
          ∙ omega (arith, length-drop (length rest - 64) rest, enough)
      | inr untagged ↦
          let is = layout_of-plain rest untagged in
          let enough = ltb-false (length rest) 66 (sym (ap (λ (l : Layout). l.is_short) is) ∙ long) in
          ap (λ (l : Layout). length l.digits) is ∙ length-take-le 64 rest (omega (arith, enough))
    ]

-- a plain line is put together of its parts
pub joined-plain : (rest : List ℕ) → is_tagged rest ≡ false → (layout_of rest).has_separator ≡ true
    → rest ≡ (layout_of rest).digits ++ spaces ++ (layout_of rest).raw_name
joined-plain rest untagged parted =
    let is = layout_of-plain rest untagged in
    join-spaced rest (sym (ap (λ (l : Layout). l.has_separator) is) ∙ parted)
    ∙ ap (λ (l : Layout). l.digits ++ spaces ++ l.raw_name) (sym is)

-- so is a tagged one
pub joined-tagged : (rest : List ℕ) → is_tagged rest ≡ true → (layout_of rest).is_short ≡ false
    → (layout_of rest).has_separator ≡ true
    → rest ≡ tag_prefix ++ (layout_of rest).raw_name ++ tag_separator ++ (layout_of rest).digits
joined-tagged rest tagged long parted =
    let is = layout_of-tagged rest tagged in
    let enough = ltb-false (length rest) 76 (sym (ap (λ (l : Layout). l.is_short) is) ∙ long) in
    join-tagged rest tagged enough (sym (ap (λ (l : Layout). l.has_separator) is) ∙ parted)
    ∙ ap (λ (l : Layout). tag_prefix ++ l.raw_name ++ tag_separator ++ l.digits) (sym is)

-- ---- where a text may be cut

-- a text may be cut after `BLAKE3 (`
pub IsCharBoundary-tag_prefix : (rest : List ℕ) → IsUtf8 rest → 76 ≤ length rest → is_tagged rest ≡ true
    → IsCharBoundary rest 8
IsCharBoundary-tag_prefix rest utf8 long tagged =
    let last : slice_index rest 7 ≡ 40 = ap (λ t. slice_index t 7) (is_tagged-append rest tagged) in
    IsCharBoundary-after_ascii rest 7 utf8 (omega (arith, long)) (omega (arith, last))

-- and in front of `) = `
pub IsCharBoundary-tag_separator : (rest : List ℕ) → 76 ≤ length rest
    → bytes_eq (take 4 (drop (length rest - 64 - 4) rest)) tag_separator ≡ true
    → IsCharBoundary rest (length rest - 64 - 4)
IsCharBoundary-tag_separator rest long parted =
    let at = length rest - 64 - 4 in
    let four = (bytes_eq-Decides (take 4 (drop at rest)) tag_separator).0 parted in
    let none : at ≡ at + 0 = omega arith in
    let first : slice_index rest at ≡ 41 =
    ap (slice_index rest) none
    ∙ sym (get_or-drop at rest 0 0)
    ∙ sym (get_or-take 4 (drop at rest) 0 0 (omega arith))
    ∙ ap (λ t. slice_index t 0) four in
    IsCharBoundary-before_ascii rest at (omega (arith, long)) (omega (arith, first))
