-- What is written is text.
use Rattle.std.proofs.Common.{◌≡◌, ℕ, ◌<◌, ◌≤◌, Bool, true, List, [], ◌∷◌, ◌++◌, slice_index, refl, sym, ap, subst, ◌∙◌, arith, append-nil, inl, inr}
use Rattle.std.specs.Prelude.{IsUtf8, nat_lt}
use Rattle.std.specs.List.{list_all}
use Rattle.std.specs.Str.{IsAscii}
use Rattle.std.proofs.Math.Utf8.{encode, encodes, scalar, scalars}
use Rattle.std.proofs.lemmas.Bool.{and_parts, cases_lt, cond_both, ltb-true}
use Rattle.std.proofs.lemmas.List.Recursion.{and_at}
use Rattle.std.proofs.lemmas.Str.{IsUtf8-append, IsUtf8-encode, IsUtf8-from_ascii, IsUtf8-nil, encode_ascii, inside_one}
use Rattle.std.proofs.lemmas.Str.Ascii.{IsAscii-cons, IsAscii-from_all, IsAscii-nil}
use Rattle.hex.specs.Hex.{encode_lower, lower_digits}
use Rattle.hex.proofs.HexLemmas.{IsAscii-encode_with}
use Rattle.b3_lines.specs.Names.{escape, escaped}
use Rattle.b3_lines.specs.Writing.{is_marked, mark, plain_text, shown, spaces, tag_prefix, tag_separator, tagged_text}
use Rattle.b3_lines.proofs.Escapes.{escape-cases, escaped-append, escaped-ascii, escaped-cons, escaped-nil, escaped-none}

-- the bytes of a character that is not ASCII are not escaped
escaped-wide : (c : ℕ) → 128 ≤ c → escaped (encode c) ≡ encode c
escaped-wide c wide =
    escaped-none (encode c) (λ k low within passes.
    let ascii : slice_index (encode c) k < 128 = escaped-ascii _ passes in
    let is = inside_one c [] (encode c) k (sym (append-nil (encode c))) within ascii in
    absurd (omega (arith, ascii, is)))

-- an escape is text
IsUtf8-pair : (b : ℕ) → b < 128 → IsUtf8 (92 ∷ b ∷ [])
IsUtf8-pair b ascii =
    IsUtf8-from_ascii (92 ∷ b ∷ []) (IsAscii-cons 92 (b ∷ []) (omega arith) (IsAscii-cons b [] ascii IsAscii-nil))

-- an ASCII byte is written as text
IsUtf8-escape : (c : ℕ) → c < 128 → IsUtf8 (escape c)
IsUtf8-escape c ascii =
    escape-cases c IsUtf8 (λ _. IsUtf8-pair 92 (omega arith)) (λ _. IsUtf8-pair 110 (omega arith))
    (λ _. IsUtf8-pair 114 (omega arith)) (λ _ _ _. IsUtf8-from_ascii (c ∷ []) (IsAscii-cons c [] ascii IsAscii-nil))

-- so is a character
IsUtf8-escaped_character : (c : ℕ) → scalar c ≡ true → IsUtf8 (escaped (encode c))
IsUtf8-escaped_character c is_scalar =
    elim (cases_lt c 128) [
      | inl ascii ↦
          let one : escaped (encode c) ≡ escape c = ap escaped (encode_ascii c ascii) ∙ escaped-cons c []
          ∙ ap (λ t. escape c ++ t) escaped-nil ∙ append-nil (escape c) in
          rw one (IsUtf8-escape c ascii)
      | inr wide ↦ rw (escaped-wide c wide) (IsUtf8-encode c is_scalar)
    ]

-- so are the characters of a name
IsUtf8-escaped_characters : (cs : List ℕ) → scalars cs ≡ true → IsUtf8 (escaped (encodes cs))
IsUtf8-escaped_characters [] are = rw escaped-nil IsUtf8-nil
IsUtf8-escaped_characters (c ∷ cs) are =
    let parts = and_parts (scalar c) (scalars cs) are in
    rw (escaped-append (encode c) (encodes cs))
    (IsUtf8-append _ _ (IsUtf8-escaped_character c parts.0) (IsUtf8-escaped_characters cs parts.1))

-- an escaped name is text
pub IsUtf8-escaped : (name : List ℕ) → IsUtf8 name → IsUtf8 (escaped name)
IsUtf8-escaped name utf8 = subst (λ t. IsUtf8 (escaped t)) utf8.1.1 (IsUtf8-escaped_characters utf8.0 utf8.1.0)

-- the mark is ASCII
IsUtf8-mark : (name : List ℕ) → IsUtf8 (mark name)
IsUtf8-mark name =
    cond_both (is_marked name) _ _ IsUtf8
    (λ _. IsUtf8-from_ascii (92 ∷ []) (IsAscii-cons 92 [] (omega arith) IsAscii-nil)) (λ _. IsUtf8-nil)

-- bytes below 128 are ASCII
IsAscii-all : (s : List ℕ) → list_all (λ b. nat_lt b 128) s ≡ true → IsAscii s
IsAscii-all s each =
    let ascii : ℕ → Bool = λ b. nat_lt b 128 in
    IsAscii-from_all s
    (λ k d within. ltb-true _ 128 (and_at (list_all ascii) ascii refl (λ _ _. refl) s k d within each))

-- digits are text
IsUtf8-encode_lower : (digest : List ℕ) → IsUtf8 (encode_lower digest)
IsUtf8-encode_lower digest =
    IsUtf8-from_ascii (encode_lower digest) (IsAscii-encode_with lower_digits digest (IsAscii-all lower_digits refl))

-- a plain line is text
pub IsUtf8-plain : (digest name : List ℕ) → IsUtf8 name → IsUtf8 (plain_text digest name)
unfolding plain_text
IsUtf8-plain digest name utf8 =
    let gap = IsUtf8-from_ascii spaces (IsAscii-all spaces refl) in
    IsUtf8-append _ _ (IsUtf8-append _ _ (IsUtf8-append _ _ (IsUtf8-mark name) (IsUtf8-encode_lower digest)) gap)
    (IsUtf8-escaped name utf8)

-- so is a tagged one
pub IsUtf8-tagged : (digest name : List ℕ) → IsUtf8 name → IsUtf8 (tagged_text digest name)
unfolding tagged_text
IsUtf8-tagged digest name utf8 =
    let begun = IsUtf8-append _ _ (IsUtf8-mark name) (IsUtf8-from_ascii tag_prefix (IsAscii-all tag_prefix refl)) in
    let named = IsUtf8-append _ _ begun (IsUtf8-escaped name utf8) in
    let closed = IsUtf8-append _ _ named (IsUtf8-from_ascii tag_separator (IsAscii-all tag_separator refl)) in
    IsUtf8-append _ _ closed (IsUtf8-encode_lower digest)

-- a shown form is text
pub IsUtf8-shown : (name : List ℕ) → IsUtf8 name → IsUtf8 (shown name)
unfolding shown
IsUtf8-shown name utf8 = IsUtf8-append _ _ (IsUtf8-mark name) (IsUtf8-escaped name utf8)
