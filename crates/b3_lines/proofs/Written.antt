-- A line, written part by part.
use Rattle.std.proofs.Common.{◌≡◌, ℕ, ◌/◌, ◌%◌, List, [], ◌∷◌, ◌++◌, slice_index, refl, sym, ap, ◌∙◌, append_assoc}
use Rattle.hex.specs.Hex.{encode_lower, encode_with, lower_digits}
use Rattle.b3_lines.specs.Names.{escaped}
use Rattle.b3_lines.specs.Writing.{mark, plain, plain_text, spaces, tag_prefix, tag_separator, tagged, tagged_text}

-- the digits of two pieces
encode_with-append : (t xs ys : List ℕ) → encode_with t (xs ++ ys) ≡ encode_with t xs ++ encode_with t ys
unfolding encode_with
encode_with-append t [] ys = refl
encode_with-append t (b ∷ xs) ys =
    ap (λ s. slice_index t (b / 16) ∷ slice_index t (b % 16) ∷ s) (encode_with-append t xs ys)

-- no bytes have no digits
pub encode_lower-nil : encode_lower [] ≡ []
unfolding encode_with
encode_lower-nil = refl

-- one more piece written
pub digits-step : (line line₁ output piece later rest whole : List ℕ) → line ++ encode_lower rest ≡ whole
    → line₁ ≡ line ++ output
    → output ≡ encode_lower piece → rest ≡ piece ++ later → line₁ ++ encode_lower later ≡ whole
digits-step line line₁ output piece later rest whole kept grown written cut =
    ap (λ t. t ++ encode_lower later) (grown ∙ ap (λ t. line ++ t) written)
    ∙ append_assoc line (encode_lower piece) (encode_lower later)
    ∙ ap (λ t. line ++ t) (sym (encode_with-append lower_digits piece later) ∙ ap encode_lower (sym cut)) ∙ kept

-- the parts of a plain line, in the order in which they are written
pub plain-written : (digest name line₁ line₂ line₃ line₄ line₅ : List ℕ) → line₁ ≡ mark name
    → line₂ ≡ line₁ ++ encode_lower digest → line₃ ≡ line₂ ++ spaces → line₄ ≡ line₃ ++ escaped name
    → line₅ ≡ line₄ ++ 10 ∷ []
    → line₅ ≡ plain digest name
unfolding plain_text
plain-written digest name line₁ line₂ line₃ line₄ line₅ marked digits gap named terminated =
    rw (terminated, named, gap, digits, marked) refl

-- and those of a tagged one
pub tagged-written : (digest name line₁ line₂ line₃ line₄ line₅ line₆ : List ℕ) → line₁ ≡ mark name
    → line₂ ≡ line₁ ++ tag_prefix → line₃ ≡ line₂ ++ escaped name → line₄ ≡ line₃ ++ tag_separator
    → line₅ ≡ line₄ ++ encode_lower digest → line₆ ≡ line₅ ++ 10 ∷ []
    → line₆ ≡ tagged digest name
unfolding tagged_text
tagged-written digest name line₁ line₂ line₃ line₄ line₅ line₆ marked begun named closed digits terminated =
    rw (terminated, digits, closed, named, begun, marked) refl
