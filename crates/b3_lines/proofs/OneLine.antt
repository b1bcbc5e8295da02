-- A line that was written has one line feed, at its end.
use Rattle.std.proofs.Common.{◌≡◌, ℕ, false, ◌==◌, List, [], ◌∷◌, ◌++◌, refl, ap, ◌∙◌, eq-eqb}
use Rattle.std.specs.List.{list_any}
use Rattle.std.proofs.lemmas.Bool.{both_ways, ne_eqb, or_from}
use Rattle.std.proofs.lemmas.List.Folds.{list_any_at}
use Rattle.b3_lines.specs.Lines.{HasNo, lines_of}
use Rattle.b3_lines.specs.Names.{escape}
use Rattle.b3_lines.specs.Writing.{plain_text, tagged_text}
use Rattle.b3_lines.proofs.Escapes.{escape-cases}
use Rattle.b3_lines.proofs.LineBytes.{list_any-plain, list_any-tagged}
use Rattle.b3_lines.proofs.Pieces.{pieces_of-nil, pieces_of-piece}

-- no byte is written as a line feed
no_feed-escape : (b : ℕ) → list_any (λ x. x == 10) (escape b) ≡ false
no_feed-escape b =
    escape-cases b (λ t. list_any (λ x. x == 10) t ≡ false) (λ _. refl) (λ _. refl) (λ _. refl)
    (λ _ not_feed _. or_from (b == 10) false (ne_eqb b 10 not_feed) refl)

-- a text of which the test finds none
HasNoLineFeed-tested : (text : List ℕ) → list_any (λ x. x == 10) text ≡ false → HasNo 10 text
HasNoLineFeed-tested text none found =
    both_ways _ none (list_any_at (λ x. x == 10) text found.0 10 found.1 (eq-eqb _ 10 found.2))

-- a plain line without its line feed, and a tagged one
pub HasNoLineFeed-plain : (digest name : List ℕ) → HasNo 10 (plain_text digest name)
HasNoLineFeed-plain digest name =
    HasNoLineFeed-tested _ (list_any-plain (λ x. x == 10) no_feed-escape digest name)

pub HasNoLineFeed-tagged : (digest name : List ℕ) → HasNo 10 (tagged_text digest name)
HasNoLineFeed-tagged digest name =
    HasNoLineFeed-tested _ (list_any-tagged (λ x. x == 10) no_feed-escape digest name)

-- what has no line feed is one line, when one ends it
pub lines_of-one : (text : List ℕ) → HasNo 10 text → lines_of (text ++ 10 ∷ []) ≡ text ∷ []
lines_of-one text none = pieces_of-piece 10 text [] none ∙ ap (λ rest. text ∷ rest) (pieces_of-nil 10)
