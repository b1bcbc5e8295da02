-- The digits of a digest, and the spaces after them.
use Rattle.std.proofs.Common.{◌≡◌, ℕ, ◌≤◌, true, List, ◌++◌, length, take, drop, slice_index, Ok, refl, sym, ap, ◌∙◌, arith, append_assoc}
use Rattle.std.specs.Prelude.{IsCharBoundary, IsUtf8, bytes_eq}
use Rattle.std.specs.List.{AllPass, list_all}
use Rattle.std.proofs.lemmas.Str.{IsCharBoundary-after_ascii}
use Rattle.std.proofs.lemmas.List.{drop-drop, drop_at, get_or-drop, get_or-take, take-append-drop, take_at}
use Rattle.std.proofs.lemmas.List.Recursion.{and_at, and_from_places}
use Rattle.std.proofs.lemmas.Slice.Eq.{bytes_eq-Decides}
use Rattle.hex.specs.Hex.{decode_of, is_hex_digit}
use Rattle.hex.proofs.HexLemmas.{decode_of-digits, decode_of-ok}
use Rattle.b3_lines.specs.Writing.{spaces}

-- the test of each digit, as a computation
pub list_all-AllPass : (s : List ℕ) → AllPass is_hex_digit s → list_all is_hex_digit s ≡ true
list_all-AllPass s each =
    and_from_places (list_all is_hex_digit) is_hex_digit refl (λ _ _. refl) s 0 (λ i within. each i 0 within)

-- and back
pub AllPass-list_all : (s : List ℕ) → list_all is_hex_digit s ≡ true → AllPass is_hex_digit s
AllPass-list_all s each i d within = and_at (list_all is_hex_digit) is_hex_digit refl (λ _ _. refl) s i d within each

-- what decodes is digits
pub list_all-from_ok : (s digest : List ℕ) → decode_of s ≡ Ok digest → list_all is_hex_digit s ≡ true
list_all-from_ok s digest ok = list_all-AllPass s (decode_of-ok s digest ok).1

-- 64 digits decode to one digest
pub digest-from_digits : (s : List ℕ) → length s ≡ 64 → list_all is_hex_digit s ≡ true
    → (digest : List ℕ) × (decode_of s ≡ Ok digest)
digest-from_digits s count each = decode_of-digits s (omega arith) (AllPass-list_all s each)

-- 64 digits, two spaces and a name, cut up
pub cut-digits : (digits name : List ℕ) → length digits ≡ 64 → take 64 (digits ++ spaces ++ name) ≡ digits
cut-digits digits name count = rw append_assoc (take_at digits (spaces ++ name) 64 count)

-- what stands after the digits
pub cut-rest : (digits name : List ℕ) → length digits ≡ 64 → drop 64 (digits ++ spaces ++ name) ≡ spaces ++ name
cut-rest digits name count = rw append_assoc (drop_at digits (spaces ++ name) 64 count)

-- what stands after the spaces
pub cut-name : (digits name : List ℕ) → length digits ≡ 64 → drop 66 (digits ++ spaces ++ name) ≡ name
cut-name digits name count =
    let further = drop-drop 2 64 (digits ++ spaces ++ name) in
    sym further ∙ ap (drop 2) (cut-rest digits name count)

-- what has digits and two spaces in front is put together of them
pub join-spaced : (rest : List ℕ) → bytes_eq (take 2 (drop 64 rest)) spaces ≡ true
    → rest ≡ take 64 rest ++ spaces ++ drop 66 rest
join-spaced rest spaced =
    let two = (bytes_eq-Decides (take 2 (drop 64 rest)) spaces).0 spaced in
    let behind : drop 2 (drop 64 rest) ≡ drop 66 rest = drop-drop 2 64 rest in
    let tail : drop 64 rest ≡ spaces ++ drop 66 rest = sym (take-append-drop 2 (drop 64 rest))
    ∙ ap (λ t. t ++ drop 2 (drop 64 rest)) two ∙ ap (λ t. spaces ++ t) behind in
    sym (take-append-drop 64 rest) ∙ ap (λ t. take 64 rest ++ t) tail
    ∙ sym (append_assoc (take 64 rest) spaces (drop 66 rest))

-- the byte before the name is a space, where a text may be cut
pub IsCharBoundary-name : (rest : List ℕ) → IsUtf8 rest → 66 ≤ length rest
    → bytes_eq (take 2 (drop 64 rest)) spaces ≡ true → IsCharBoundary rest 66
IsCharBoundary-name rest utf8 long spaced =
    let two = (bytes_eq-Decides (take 2 (drop 64 rest)) spaces).0 spaced in
    let space : slice_index rest 65 ≡ 32 =
    sym (get_or-drop 64 rest 1 0) ∙ sym (get_or-take 2 (drop 64 rest) 1 0 (omega arith))
    ∙ ap (λ t. slice_index t 1) two in
    IsCharBoundary-after_ascii rest 65 utf8 (omega (arith, long)) (omega (arith, space))
