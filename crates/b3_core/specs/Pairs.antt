-- Two compressions at once (BLAKE3 (2020), 2.2), by rows: a vector of eight words has four of the one in its first half
-- and four of the other in its second. For private contracts alone.
use Rattle.std.specs.Prelude.{◌≡◌, ℕ, zero, suc, ◌*◌, List, ◌++◌, length, take, drop}

-- half p of a vector, from 0
abbrev pub half : ℕ → List ℕ → List ℕ
half p x = take 4 (drop (4 * p) x)

-- half p of each row
abbrev pub half_rows : ℕ → List ℕ × List ℕ × List ℕ × List ℕ → List ℕ × List ℕ × List ℕ × List ℕ
half_rows p v = (half p v.0, half p v.1, half p v.2, half p v.3)

-- the chaining value in half p of two rows
abbrev pub half_chaining : ℕ → List ℕ × List ℕ → List ℕ
half_chaining p h = half p h.0 ++ half p h.1

-- rows of two halves each
abbrev pub AreWideRows : List ℕ × List ℕ × List ℕ × List ℕ → Type 0
AreWideRows v = (length v.0 ≡ 8) × (length v.1 ≡ 8) × (length v.2 ≡ 8) × (length v.3 ≡ 8)

-- two rows of two halves each
abbrev pub AreWide : List ℕ × List ℕ → Type 0
AreWide h = (length h.0 ≡ 8) × (length h.1 ≡ 8)

-- what belongs to half p of two
abbrev pub of_half : ℕ → ℕ → ℕ → ℕ
of_half zero a b = a
of_half (suc p) a b = b
