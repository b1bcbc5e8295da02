-- The pieces of a text, each ended by a delimiter; its lines, which a line feed ends, and their ranges in it.
use Rattle.std.specs.Prelude.{◌≡◌, ◌≢◌, ◌⊎◌, ◌≤◌, ℕ, ◌+◌, ◌==◌, if◌then◌else◌, List, [], ◌∷◌, ◌++◌, length, slice_range, All, Contains}
use Rattle.std.specs.List.{flat_map}

-- a byte does not stand in a piece
abbrev pub HasNo : ℕ → List ℕ → Type 0
HasNo b piece = ¬ Contains piece b

-- what pieces give when each is followed by the delimiter
abbrev pub terminated : ℕ → List (List ℕ) → List ℕ
terminated delimiter pieces = flat_map (λ piece. piece ++ delimiter ∷ []) pieces

-- pieces give a text when each is followed by the delimiter but the last, which is not empty
pub record EndsUnterminated (delimiter : ℕ) (text : List ℕ) (pieces : List (List ℕ)) : Type 0 where
  pub before : List (List ℕ)
  pub last : List ℕ
  pub pieces_are : pieces ≡ before ++ last ∷ []
  pub is_some : last ≢ []
  pub text_is : text ≡ terminated delimiter before ++ last

-- the pieces of a text: they hold no delimiter, and give the text when each is followed by one, the last perhaps by
-- none if it is not empty
pub record ArePieces (delimiter : ℕ) (text : List ℕ) (pieces : List (List ℕ)) : Type 0 where
  pub without : All (HasNo delimiter) pieces
  pub give : (text ≡ terminated delimiter pieces) ⊎ EndsUnterminated delimiter text pieces

-- the lines of a text: the pieces that a line feed ends
abbrev pub AreLines : List ℕ → List (List ℕ) → Type 0
AreLines text pieces = ArePieces 10 text pieces

-- a byte but a delimiter in front of the pieces after it
abbrev pub prepended : ℕ → List (List ℕ) → List (List ℕ)
prepended b [] = (b ∷ []) ∷ []
prepended b (piece ∷ pieces) = (b ∷ piece) ∷ pieces

-- the pieces of a text, computed
unfoldable pub pieces_of : ℕ → List ℕ → List (List ℕ)
pieces_of delimiter [] = []
pieces_of delimiter (b ∷ text) =
    if b == delimiter then [] ∷ pieces_of delimiter text else prepended b (pieces_of delimiter text)

-- the lines of a text, computed
abbrev pub lines_of : List ℕ → List (List ℕ)
lines_of text = pieces_of 10 text

-- the ranges of lines that stand one after the other from `start` on, with a line feed between two
unfoldable pub ranges_from : ℕ → List (List ℕ) → List (ℕ × ℕ)
ranges_from start [] = []
ranges_from start (line ∷ lines) =
    let end = start + length line in
    (start, end) ∷ ranges_from (end + 1) lines

-- the ranges of the lines of a text, (start, end), end excluded
abbrev pub line_ranges : List ℕ → List (ℕ × ℕ)
line_ranges text = ranges_from 0 (lines_of text)

-- a range lies in a text
abbrev pub IsWithin : List ℕ → ℕ × ℕ → Type 0
IsWithin text range = (range.0 ≤ range.1) × (range.1 ≤ length text)

-- the line in a range
abbrev pub line_at : List ℕ → ℕ × ℕ → List ℕ
line_at text range = slice_range text range.0 range.1
