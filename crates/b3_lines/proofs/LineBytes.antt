-- Where no byte of a name passes a test as it is written, no byte of a line does.
use Rattle.std.proofs.Common.{◌≡◌, ℕ, ◌/◌, ◌%◌, Bool, false, List, [], ◌∷◌, ◌++◌, length, slice_index, refl, ap, ◌∙◌, inl, inr}
use Rattle.std.specs.List.{list_any}
use Rattle.std.proofs.lemmas.Bool.{both_ways, cases_lt, cond_both, false_from_ne_true, or_from, or_parts}
use Rattle.std.proofs.lemmas.List.{get_or_past}
use Rattle.std.proofs.lemmas.List.Folds.{list_any-append, list_any_at}
use Rattle.hex.specs.Hex.{encode_lower, encode_with, lower_digits}
use Rattle.b3_lines.specs.Names.{escape, escaped}
use Rattle.b3_lines.specs.Writing.{is_marked, mark, plain_text, spaces, tag_prefix, tag_separator, tagged_text}
use Rattle.b3_lines.proofs.Escapes.{escaped-cons, escaped-nil}

-- where no byte passes, none at a place does
pub list_any-at : (p : ℕ → Bool) (s : List ℕ) (k : ℕ) → list_any p s ≡ false → p 0 ≡ false
    → p (slice_index s k) ≡ false
list_any-at p s k none outside = elim (cases_lt k (length s)) [
  | inl within ↦ false_from_ne_true _ (λ passes. both_ways _ none (list_any_at p s k 0 within passes))
  | inr past ↦ ap p (get_or_past s k 0 past) ∙ outside
]

module _ (p : ℕ → Bool) (none : (b : ℕ) → list_any p (escape b) ≡ false) where
  -- in neither of two parts
  both : (xs ys : List ℕ) → list_any p xs ≡ false → list_any p ys ≡ false → list_any p (xs ++ ys) ≡ false
  both xs ys first second = list_any-append p xs ys ∙ or_from _ _ first second

  -- a name, its mark, and digits
  list_any-escaped : (name : List ℕ) → list_any p (escaped name) ≡ false
  list_any-escaped [] = ap (list_any p) escaped-nil
  list_any-escaped (b ∷ name) =
      ap (list_any p) (escaped-cons b name) ∙ both (escape b) (escaped name) (none b) (list_any-escaped name)

  list_any-mark : (name : List ℕ) → list_any p (mark name) ≡ false
  list_any-mark name =
      let backslash = or_parts (p 92) _ (none 92) in
      cond_both (is_marked name) _ _ (λ text. list_any p text ≡ false) (λ _. backslash.1) (λ _. refl)

  digit : (k : ℕ) → p (slice_index lower_digits k) ≡ false
  unfolding escaped
  digit k = list_any-at p lower_digits k (list_any-escaped lower_digits) (or_parts (p 0) _ (none 0)).0

  list_any-encode_lower : (bytes : List ℕ) → list_any p (encode_lower bytes) ≡ false
  unfolding encode_with
  list_any-encode_lower [] = refl
  list_any-encode_lower (b ∷ bytes) =
      or_from _ _ (digit (b / 16)) (or_from _ _ (digit (b % 16)) (list_any-encode_lower bytes))

  -- a plain line without its line feed, and a tagged one
  pub list_any-plain : (digest name : List ℕ) → list_any p (plain_text digest name) ≡ false
  unfolding plain_text escaped
  list_any-plain digest name =
      both _ _ (both _ _ (both _ _ (list_any-mark name) (list_any-encode_lower digest)) (list_any-escaped spaces))
      (list_any-escaped name)

  pub list_any-tagged : (digest name : List ℕ) → list_any p (tagged_text digest name) ≡ false
  unfolding tagged_text escaped
  list_any-tagged digest name =
      let begun = both _ _ (list_any-mark name) (list_any-escaped tag_prefix) in
      let closed = both _ _ (both _ _ begun (list_any-escaped name)) (list_any-escaped tag_separator) in
      both _ _ closed (list_any-encode_lower digest)
