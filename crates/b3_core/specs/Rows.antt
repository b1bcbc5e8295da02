-- The state of a compression and its message as four rows of four words each (BLAKE3 (2020), 2.2): a step on whole rows
-- is one on each column.
use Rattle.std.specs.Prelude.{◌≡◌, ℕ, List, [], ◌∷◌, ◌++◌, length, map, slice_index}
use Rattle.b3_core.specs.Compression.{half_g}

-- the sixteen words of four rows, one after the other
abbrev pub row_words : List ℕ × List ℕ × List ℕ × List ℕ → List ℕ
row_words rows = rows.0 ++ rows.1 ++ rows.2 ++ rows.3

-- four words in each
abbrev pub AreRows : List ℕ × List ℕ × List ℕ × List ℕ → Type 0
AreRows rows = (length rows.0 ≡ 4) × (length rows.1 ≡ 4) × (length rows.2 ≡ 4) × (length rows.3 ≡ 4)

-- the eight words of a chaining value, of its two rows
abbrev pub chaining_words : List ℕ × List ℕ → List ℕ
chaining_words h = h.0 ++ h.1

-- four words in each
abbrev pub AreChainingRows : List ℕ × List ℕ → Type 0
AreChainingRows h = (length h.0 ≡ 4) × (length h.1 ≡ 4)

-- a half of G on each column of the state v, with one word of x each
abbrev pub half_columns : List ℕ → List ℕ → ℕ → ℕ → List ℕ
half_columns v x r s =
    let v = half_g v 0 4 8 12 (slice_index x 0) r s in
    let v = half_g v 1 5 9 13 (slice_index x 1) r s in
    let v = half_g v 2 6 10 14 (slice_index x 2) r s in
    half_g v 3 7 11 15 (slice_index x 3) r s

-- the state whose columns are the diagonals of the state v, the last one first
abbrev pub diagonalized : List ℕ → List ℕ
diagonalized v =
    map (slice_index v) (3 ∷ 0 ∷ 1 ∷ 2 ∷ 4 ∷ 5 ∷ 6 ∷ 7 ∷ 9 ∷ 10 ∷ 11 ∷ 8 ∷ 14 ∷ 15 ∷ 12 ∷ 13 ∷ [])

-- and back
abbrev pub undiagonalized : List ℕ → List ℕ
undiagonalized v =
    map (slice_index v) (1 ∷ 2 ∷ 3 ∷ 0 ∷ 4 ∷ 5 ∷ 6 ∷ 7 ∷ 11 ∷ 8 ∷ 9 ∷ 10 ∷ 14 ∷ 15 ∷ 12 ∷ 13 ∷ [])

-- the message whose words stand in the order in which a round takes them
abbrev pub message_of : List ℕ → List ℕ
message_of x =
    map (slice_index x) (0 ∷ 4 ∷ 1 ∷ 5 ∷ 2 ∷ 6 ∷ 3 ∷ 7 ∷ 9 ∷ 13 ∷ 10 ∷ 14 ∷ 11 ∷ 15 ∷ 8 ∷ 12 ∷ [])
