-- Chunks on lanes: blocks that are loaded by rows of four words, and the compressions of a full chunk.
use Rattle.std.proofs.Common.{◌≡◌, ℕ, ◌+◌, ◌*◌, ◌/◌, ◌<◌, ◌≤◌, List, [], ◌∷◌, ◌++◌, length, map, get_or, take, drop}
use Rattle.std.proofs.Common.{refl, sym, ap, ◌∙◌, arith, w32, bit_or, ◌-◌, ◌⊎◌, inl, inr, ◌≢◌}
use Rattle.std.specs.Prelude.{if◌then◌else◌}
use Rattle.std.specs.Int.{from_le_bytes}
use Rattle.std.specs.List.{range_with_len}
use Rattle.std.specs.Simd.Lanes.{pick_l}
use Rattle.std.proofs.lemmas.List.{get_or-take, get_or-drop, length-take-le, length-drop, drop-drop, drop-take}
use Rattle.std.proofs.lemmas.List.{take-take}
use Rattle.std.proofs.lemmas.Bool.{ne_eqb}
use Rattle.b3_core.specs.Words.{word_at, words_of}
use Rattle.b3_core.specs.Compression.{compress}
use Rattle.b3_core.specs.Nodes.{chaining}
use Rattle.b3_core.specs.Chunks.{block_flags, chaining_value_at, chunk_at, chunk_node, last_block_index}
use Rattle.b3_core.specs.Chunks.{last_block_node}
use Rattle.b3_core.specs.declared.modes.Mode.{Mode}
use Rattle.b3_core.specs.declared.nodes.Node.{Node}
use Rattle.b3_core.proofs.ChunkNodes.{block_node-whole, chaining_value_at-suc, chunk_node-last}
use Rattle.b3_core.specs.Lanes.{after_blocks, full_chunk_flags, lane, word_at_offset}
use Rattle.b3_core.proofs.Lists.{below_eight, map-below}

-- row j and row j + 4, four words each
abbrev pub both : (ℕ → ℕ → ℕ) → ℕ → List ℕ
both f j = map (f j) (range_with_len 0 4) ++ map (f (j + 4)) (range_with_len 0 4)

-- four rows of two lanes each, exchanged
abbrev pub exchanged : List ℕ → List ℕ → List ℕ → List ℕ → List (List ℕ)
exchanged r0 r1 r2 r3 =
    let a0 = pick_l 0 (r0 ++ r1) (0 ∷ 8 ∷ 1 ∷ 9 ∷ 4 ∷ 12 ∷ 5 ∷ 13 ∷ []) in
    let a1 = pick_l 0 (r0 ++ r1) (2 ∷ 10 ∷ 3 ∷ 11 ∷ 6 ∷ 14 ∷ 7 ∷ 15 ∷ []) in
    let a2 = pick_l 0 (r2 ++ r3) (0 ∷ 8 ∷ 1 ∷ 9 ∷ 4 ∷ 12 ∷ 5 ∷ 13 ∷ []) in
    let a3 = pick_l 0 (r2 ++ r3) (2 ∷ 10 ∷ 3 ∷ 11 ∷ 6 ∷ 14 ∷ 7 ∷ 15 ∷ []) in
    pick_l 0 (a0 ++ a2) (0 ∷ 1 ∷ 8 ∷ 9 ∷ 4 ∷ 5 ∷ 12 ∷ 13 ∷ [])
    ∷ pick_l 0 (a0 ++ a2) (2 ∷ 3 ∷ 10 ∷ 11 ∷ 6 ∷ 7 ∷ 14 ∷ 15 ∷ [])
    ∷ pick_l 0 (a1 ++ a3) (0 ∷ 1 ∷ 8 ∷ 9 ∷ 4 ∷ 5 ∷ 12 ∷ 13 ∷ [])
    ∷ pick_l 0 (a1 ++ a3) (2 ∷ 3 ∷ 10 ∷ 11 ∷ 6 ∷ 7 ∷ 14 ∷ 15 ∷ []) ∷ []

-- word i of lane j is f j i
pub exchanged-lanes : (f : ℕ → ℕ → ℕ) (j : ℕ) → j < 8
    → lane j (exchanged (both f 0) (both f 1) (both f 2) (both f 3)) ≡ map (f j) (range_with_len 0 4)
exchanged-lanes f =
    below_eight (λ j. lane j (exchanged (both f 0) (both f 1) (both f 2) (both f 3)) ≡ map (f j) (range_with_len 0 4))
    refl refl refl refl refl refl refl refl

-- a word of a block
pub word_at_offset-block : (bytes : List ℕ) (start place n : ℕ) → n < 16 → place ≡ start + 4 * n
    → word_at_offset bytes place ≡ word_at (take 64 (drop start bytes)) n
word_at_offset-block bytes start place n n_in is =
    let byte : (p q : ℕ) → q < 64 → p ≡ start + q → get_or bytes p 0 ≡ get_or (take 64 (drop start bytes)) q 0 =
    λ p q q_in p_is. ap (λ i. get_or bytes i 0) p_is
    ∙ sym (get_or-take 64 (drop start bytes) q 0 q_in ∙ get_or-drop start bytes q 0) in
    let e0 = byte place (4 * n) (omega arith) (omega arith) in
    let e1 = byte (place + 1) (4 * n + 1) (omega arith) (omega arith) in
    let e2 = byte (place + 2) (4 * n + 2) (omega arith) (omega arith) in
    let e3 = byte (place + 3) (4 * n + 3) (omega arith) (omega arith) in
    λ i. from_le_bytes w32 (e0 i ∷ e1 i ∷ e2 i ∷ e3 i ∷ [])

-- the words of a whole block
pub words_of-block : (bytes : List ℕ) (start : ℕ) → start + 64 ≤ length bytes
    → words_of (take 64 (drop start bytes)) ≡ map (word_at (take 64 (drop start bytes))) (range_with_len 0 16)
unfolding words_of
words_of-block bytes start fits =
    let long : length (take 64 (drop start bytes)) ≡ 64 =
    length-take-le 64 (drop start bytes) (omega (arith, length-drop start bytes)) in
    ap (λ n. map (word_at (take 64 (drop start bytes))) (range_with_len 0 (n / 4))) long

-- the words of a block, by four
pub four_by_four-block : (bytes : List ℕ) (start : ℕ) → start + 64 ≤ length bytes
    → map (λ i. word_at_offset bytes (start + 4 * i)) (range_with_len 0 4)
    ++ map (λ i. word_at_offset bytes (start + 16 + 4 * i)) (range_with_len 0 4)
    ++ map (λ i. word_at_offset bytes (start + 32 + 4 * i)) (range_with_len 0 4)
    ++ map (λ i. word_at_offset bytes (start + 48 + 4 * i)) (range_with_len 0 4)
    ≡ words_of (take 64 (drop start bytes))
four_by_four-block bytes start fits =
    let block = take 64 (drop start bytes) in
    let row : (offset n : ℕ) → offset ≡ start + 4 * n → n + 4 < 17
    → map (λ i. word_at_offset bytes (offset + 4 * i)) (range_with_len 0 4)
    ≡ map (λ i. word_at block (n + i)) (range_with_len 0 4) =
    λ offset n offset_is n_in.
    map-below (λ i. word_at_offset bytes (offset + 4 * i)) (λ i. word_at block (n + i)) 4
    (λ i i_in. word_at_offset-block bytes start (offset + 4 * i) (n + i) (omega arith) (omega arith)) in
    (λ i. row start 0 (omega arith) (omega arith) i ++ row (start + 16) 4 (omega arith) (omega arith) i
    ++ row (start + 32) 8 (omega arith) (omega arith) i ++ row (start + 48) 12 (omega arith) (omega arith) i)
    ∙ sym (words_of-block bytes start fits)

-- a block of a chunk
pub block-of_chunk : (bytes : List ℕ) (place j k : ℕ) → k < 16 → place ≡ 1024 * j + 64 * k
    → take 64 (drop place bytes) ≡ take 64 (drop (64 * k) (chunk_at bytes j))
block-of_chunk bytes place j k k_in is =
    let rest = drop (1024 * j) bytes in
    let room : 64 * k + (1024 - 64 * k) ≡ 1024 = omega arith in
    ap (λ n. take 64 (drop n bytes)) is
    ∙ ap (take 64) (sym (drop-drop (64 * k) (1024 * j) bytes))
    ∙ sym (take-take 64 (1024 - 64 * k) (drop (64 * k) rest) (omega arith))
    ∙ ap (take 64) (sym (drop-take (64 * k) (1024 - 64 * k) rest) ∙ ap (λ n. drop (64 * k) (take n rest)) room)

-- a full chunk of a list of bytes
pub length-chunk_at : (bytes : List ℕ) (n j : ℕ) → j < n → 1024 * n ≤ length bytes
    → length (chunk_at bytes j) ≡ 1024
length-chunk_at bytes n j j_in fits =
    length-take-le 1024 (drop (1024 * j) bytes) (omega (arith, length-drop (1024 * j) bytes))

-- a whole block of a chunk
length-block_at : (chunk : List ℕ) (k : ℕ) → 64 * k + 64 ≤ length chunk → length (take 64 (drop (64 * k) chunk)) ≡ 64
length-block_at chunk k within = length-take-le 64 (drop (64 * k) chunk) (omega (arith, length-drop (64 * k) chunk))

pub after_blocks-chaining_value_at : (mode : Mode) (number : ℕ) (chunk : List ℕ) (k : ℕ) → k ≢ 16
    → after_blocks mode number chunk k ≡ chaining_value_at mode number chunk k
after_blocks-chaining_value_at mode number chunk k inner =
    ap (λ b. if b then chaining (chunk_node mode number chunk) else chaining_value_at mode number chunk k)
    (ne_eqb k 16 inner)

-- after one more block
pub after_blocks-suc : (mode : Mode) (number : ℕ) (chunk : List ℕ) (k : ℕ) (h m : List ℕ)
    → 64 * k + 64 ≤ length chunk → length chunk ≤ 1024 → (k ≡ 15) ⊎ (k ≢ 15)
    → h ≡ after_blocks mode number chunk k
    → m ≡ words_of (take 64 (drop (64 * k) chunk))
    → take 8 (compress h m number 64 (full_chunk_flags mode k)) ≡ after_blocks mode number chunk (k + 1)
unfolding last_block_node
after_blocks-suc mode number chunk k h m within short (inl last) h_is m_is =
    let block = take 64 (drop (64 * k) chunk) in
    let is_last : k ≡ last_block_index chunk = omega (arith, last) in
    let flags = ap (full_chunk_flags mode) last ∙ sym (ap (λ i. bit_or (block_flags mode i) 2) last) in
    ap (λ d. take 8 (compress h m number 64 d)) flags
    ∙ ap (λ (node : Node). chaining (record node { d = bit_or node.d 2 }))
    (block_node-whole mode number k h m block (length-block_at chunk k within) m_is)
    ∙ ap chaining (chunk_node-last mode number chunk k k 64 h is_last is_last (omega (arith, last))
    (h_is ∙ after_blocks-chaining_value_at mode number chunk k (λ is. omega (arith, is, last))))
    ∙ sym (ap (λ i. after_blocks mode number chunk (i + 1)) last)
after_blocks-suc mode number chunk k h m within short (inr inner) h_is m_is =
    let block = take 64 (drop (64 * k) chunk) in
    ap (λ b. take 8 (compress h m number 64 (if b then bit_or mode.flag 2 else block_flags mode k))) (ne_eqb k 15 inner)
    ∙ ap chaining (block_node-whole mode number k h m block (length-block_at chunk k within) m_is)
    ∙ chaining_value_at-suc mode number chunk k 64 h refl
    (h_is ∙ after_blocks-chaining_value_at mode number chunk k (λ is. omega (arith, is)))
    ∙ sym (after_blocks-chaining_value_at mode number chunk (k + 1) (λ is. inner (omega (arith, is))))
