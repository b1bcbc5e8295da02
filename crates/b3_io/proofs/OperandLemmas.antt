-- The operands that are left: of a list of names, piece by piece.
use Rattle.std.proofs.Common.{◌≡◌, ℕ, suc, ◌+◌, List, [], ◌∷◌, ◌++◌, length, map, refl, sym, ap, ◌∙◌, arith}
use Rattle.std.specs.Prelude.{IsUtf8, if◌then◌else◌}
use Rattle.std.specs.Str.{is_utf8}
use Rattle.std.proofs.lemmas.Bool.{cond-false, cond-true, false_from_ne_true}
use Rattle.std.proofs.lemmas.List.{append-nil}
use Rattle.std.proofs.lemmas.Str.{IsUtf8-from_is_utf8, is_utf8-from_IsUtf8}
use Rattle.b3_lines.specs.Lines.{pieces_of}
use Rattle.b3_lines.proofs.Pieces.{pieces_of-nil}
use Rattle.b3_io.specs.Operands.{Operand, operands_from}
use Rattle.b3_io.specs.Operands.Operand.{Text, NotText}

-- a piece that is text, and one that is not
piece_text : (list : List ℕ) (number : ℕ) (piece : List ℕ) → IsUtf8 piece
    → (if is_utf8 piece then Text piece else NotText list number) ≡ Text piece
piece_text list number piece text = cond-true (is_utf8 piece) _ _ (is_utf8-from_IsUtf8 piece text)

piece_not_text : (list : List ℕ) (number : ℕ) (piece : List ℕ) → ¬ IsUtf8 piece
    → (if is_utf8 piece then Text piece else NotText list number) ≡ NotText list number
piece_not_text list number piece other =
    cond-false (is_utf8 piece) _ _
    (false_from_ne_true (is_utf8 piece) (λ text. other (IsUtf8-from_is_utf8 piece text)))

-- the operand of the first piece, and those after it
pub first_text : (list : List ℕ) (number : ℕ) (pieces rest : List (List ℕ)) (piece name : List ℕ)
    → pieces ≡ piece ∷ rest → name ≡ piece → IsUtf8 piece
    → operands_from list number pieces ≡ Text name ∷ operands_from list (number + 1) rest
first_text list number pieces rest piece name are is text =
    ap (operands_from list number) are
    ∙ ap (λ o. o ∷ operands_from list (number + 1) rest) (piece_text list number piece text ∙ ap Text (sym is))

pub first_not_text : (list : List ℕ) (number : ℕ) (pieces rest : List (List ℕ)) (piece : List ℕ)
    → pieces ≡ piece ∷ rest → ¬ IsUtf8 piece
    → operands_from list number pieces ≡ NotText list number ∷ operands_from list (number + 1) rest
first_not_text list number pieces rest piece are other =
    ap (operands_from list number) are
    ∙ ap (λ o. o ∷ operands_from list (number + 1) rest) (piece_not_text list number piece other)

-- there are as many as pieces
pub length-operands_from : (list : List ℕ) (number : ℕ) (pieces : List (List ℕ))
    → length (operands_from list number pieces) ≡ length pieces
length-operands_from list number [] = refl
length-operands_from list number (piece ∷ pieces) = ap suc (length-operands_from list (number + 1) pieces)

-- ---- names that are given

pub map-Text : {A : Type 0} (name : A → List ℕ) (xs : List A)
    → map (λ (x : A). Text (name x)) xs ≡ map Text (map name xs)
map-Text name [] = refl
map-Text name (x ∷ xs) = ap (λ others. Text (name x) ∷ others) (map-Text name xs)

-- nothing follows them
pub left_given : {A : Type 0} (name : A → List ℕ) (given : List A)
    → map (λ (x : A). Text (name x)) given ++ operands_from [] 1 (pieces_of 0 []) ≡ map (λ (x : A). Text (name x)) given
left_given {A} name given =
    ap (λ (pieces : List (List ℕ)). map (λ (x : A). Text (name x)) given ++ operands_from [] 1 pieces) (pieces_of-nil 0)
    ∙ append-nil (map (λ (x : A). Text (name x)) given)

-- where none is left of those that are given, the next is the first of the others
pub left_first : {A : Type 0} (name : A → List ℕ) (given : List A) (first : Operand) (all rest : List Operand)
    → length given ≡ 0 → all ≡ first ∷ rest
    → map (λ (x : A). Text (name x)) given ++ all ≡ first ∷ (map (λ (x : A). Text (name x)) given ++ rest)
left_first name [] first all rest none is = is
left_first name (x ∷ given) first all rest none is = absurd (omega (arith, none))
