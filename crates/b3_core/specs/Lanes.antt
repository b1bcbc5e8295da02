-- Eight compressions or chunks at once (BLAKE3 (2020), 2.2 and 2.4), a lane each: what lanes hold and what they are
-- about, for private contracts alone. A vector is a list of eight words.
use Rattle.std.specs.Prelude.{◌≡◌, ℕ, ◌+◌, ◌*◌, ◌<◌, List, [], ◌∷◌, length, map, take, drop, slice_index}
use Rattle.std.specs.Prelude.{slice_index_or, bit_or, nat_eq, if◌then◌else◌}
use Rattle.std.specs.Int.{w32, from_le_bytes}
use Rattle.b3_core.specs.Nodes.{chaining}
use Rattle.b3_core.specs.Modes.{chunk_end_flag}
use Rattle.b3_core.specs.Chunks.{block_flags, chaining_value_at, chunk_at, chunk_len, chunk_node}
use Rattle.b3_core.specs.declared.modes.Mode.{Mode}

-- what lane j of a list of vectors holds
abbrev pub lane : ℕ → List (List ℕ) → List ℕ
lane j v = map (λ row. slice_index row j) v

-- n vectors, each of eight lanes
abbrev pub AreVectors : ℕ → List (List ℕ) → Type 0
AreVectors n v = (length v ≡ n) × ((i : ℕ) → i < n → length (slice_index_or v i []) ≡ 8)

-- the word that begins at this offset of a list of bytes
abbrev pub word_at_offset : List ℕ → ℕ → ℕ
word_at_offset bytes offset = from_le_bytes w32
    (slice_index bytes offset ∷ slice_index bytes (offset + 1) ∷ slice_index bytes (offset + 2)
    ∷ slice_index bytes (offset + 3) ∷ [])

-- part j of an input, of parts of w chunks each
abbrev pub part : ℕ → ℕ → List ℕ → List ℕ
part w j input = take (chunk_len * w) (drop (chunk_len * w * j) input)

-- the flags of block k of a full chunk
abbrev pub full_chunk_flags : Mode → ℕ → ℕ
full_chunk_flags mode k = if nat_eq k 15 then bit_or mode.flag chunk_end_flag else block_flags mode k

-- the chaining value after k blocks of a chunk, which after sixteen is its own
abbrev pub after_blocks : Mode → ℕ → List ℕ → ℕ → List ℕ
after_blocks mode number chunk k =
    if nat_eq k 16 then chaining (chunk_node mode number chunk) else chaining_value_at mode number chunk k

-- the chaining value of chunk j of an input whose chunks are numbered from `first`
abbrev pub chunk_chaining : Mode → ℕ → List ℕ → ℕ → List ℕ
chunk_chaining mode first input j = chaining (chunk_node mode (first + j) (chunk_at input j))

-- the chaining values of the chunks of an input, as far as the list goes
abbrev pub AreChunkChainings : Mode → ℕ → List ℕ → List (List ℕ) → Type 0
AreChunkChainings mode first input chainings =
    (j : ℕ) → j < length chainings → slice_index_or chainings j [] ≡ chunk_chaining mode first input j
