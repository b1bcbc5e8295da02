-- An open chunk: of no bytes, with one more block closed, with more bytes, and its nodes.
use Rattle.std.proofs.Common.{◌≡◌, ℕ, zero, suc, ◌+◌, ◌-◌, ◌*◌, ◌/◌, ◌<◌, ◌≤◌, List, [], ◌++◌, length, take, drop, replicate, refl, bit_or}
use Rattle.std.proofs.Common.{sym, ap, ◌∙◌, add-one, arith}
use Rattle.std.proofs.lemmas.List.{length-append, length-drop, drop_all, drop_at, take_all, take-append-le, drop-append-le}
use Rattle.std.proofs.lemmas.List.{take-take, drop-take, take-append-drop}
use Rattle.b3_core.specs.Nodes.{chaining}
use Rattle.std.proofs.lemmas.List.{length-take-le}
use Rattle.b3_core.specs.Words.{words_of}
use Rattle.b3_core.specs.Chunks.{block_at, block_flags, block_node, chaining_value_at, chunk_node, last_block_node, padded}
use Rattle.b3_core.proofs.ChunkNodes.{padded-whole}
use Rattle.b3_core.specs.declared.modes.Mode.{Mode}
use Rattle.b3_hash.specs.OpenChunks.{ChunkState, HasBytes, IsChunkState}

-- no bytes
pub IsChunkState-none : (mode : Mode) (number : ℕ)
    → IsChunkState mode number (record { blocks = 0; h = mode.key; block = [] }) []
unfolding chaining_value_at
IsChunkState-none mode number = record {
  has_bytes = record { len = refl; h = refl; block = refl };
  last = refl;
}

-- a chunk of no bytes does not depend on its number
pub IsChunkState-nil : (mode : Mode) (number other : ℕ) (chunk_state : ChunkState)
    → IsChunkState mode number chunk_state [] → IsChunkState mode other chunk_state []
unfolding chaining_value_at
IsChunkState-nil mode number other chunk_state is_chunk_state =
    let none : chunk_state.blocks ≡ 0 = is_chunk_state.last in
    let held = is_chunk_state.has_bytes in record {
      has_bytes = record {
        len = held.len;
        h = held.h ∙ ap (chaining_value_at mode number []) none ∙ sym (ap (chaining_value_at mode other []) none);
        block = held.block;
      };
      last = none;
    }

-- the bytes of the open block are the chunk's block of its number
pub block_at-chunk_state : (mode : Mode) (number : ℕ) (chunk_state : ChunkState) (bytes : List ℕ)
    → HasBytes mode number chunk_state bytes → length chunk_state.block ≤ 64
    → chunk_state.block ≡ block_at bytes chunk_state.blocks
block_at-chunk_state mode number chunk_state bytes held fits = sym (take_all 64 chunk_state.block fits)
    ∙ ap (take 64) held.block

-- the compression of the open block as the last is the chunk's node
pub chunk_node-chunk_state : (mode : Mode) (number : ℕ) (chunk_state : ChunkState) (bytes : List ℕ)
    → IsChunkState mode number chunk_state bytes → length chunk_state.block ≤ 64
    → last_block_node mode number chunk_state.blocks chunk_state.h chunk_state.block ≡ chunk_node mode number bytes
unfolding chunk_node
chunk_node-chunk_state mode number chunk_state bytes is_chunk_state fits =
    let held = is_chunk_state.has_bytes in
    let block = block_at-chunk_state mode number chunk_state bytes held fits in
    (λ i. last_block_node mode number chunk_state.blocks (held.h i) (block i))
    ∙ ap (λ k. last_block_node mode number k (chaining_value_at mode number bytes k) (block_at bytes k))
    is_chunk_state.last

-- a short block is read as a whole one that zeros fill up
pub last_block_node-padded : (mode : Mode) (number k : ℕ) (h block : List ℕ) (len : ℕ) → length block ≡ 64 → len ≤ 64
    → drop len block ≡ replicate (64 - len) 0
    → (let node = last_block_node mode number k h block in record node { b = len })
    ≡ last_block_node mode number k h (take len block)
unfolding last_block_node block_node
last_block_node-padded mode number k h block len size fits zeros =
    let count : len ≡ length (take len block) = sym (length-take-le len block (omega arith)) in
    let whole : padded block ≡ padded (take len block) =
    padded-whole block size
    ∙ sym (take-append-drop len block)
    ∙ (λ i. take len block ++ zeros i)
    ∙ (λ i. take len block ++ replicate (64 - count i) 0) in
    λ i. record {
      h = h;
      m = words_of (whole i);
      t = number;
      b = count i;
      d = bit_or (block_flags mode k) 2;
    }

-- the open block, which is full, is closed
pub HasBytes-closed : (mode : Mode) (number : ℕ) (chunk_state : ChunkState) (bytes h : List ℕ)
    → HasBytes mode number chunk_state bytes → length chunk_state.block ≡ 64
    → h ≡ chaining (block_node mode number chunk_state.blocks chunk_state.h chunk_state.block)
    → HasBytes mode number (record { blocks = chunk_state.blocks + 1; h = h; block = [] }) bytes
unfolding chaining_value_at
HasBytes-closed mode number chunk_state bytes h held full h_is =
    let len = held.len in
    let block = block_at-chunk_state mode number chunk_state bytes held (omega arith) in record {
      len = omega arith;
      h = rw add-one (h_is ∙ ap chaining (λ i. block_node mode number chunk_state.blocks (held.h i) (block i)));
      block = sym (drop_all (64 * (chunk_state.blocks + 1)) bytes (omega arith));
    }

-- a whole block does not change where bytes are appended
block_at-append : (bytes more : List ℕ) (k : ℕ) → 64 * k + 64 ≤ length bytes
    → block_at (bytes ++ more) k ≡ block_at bytes k
block_at-append bytes more k within =
    let len = length-drop (64 * k) bytes in
    ap (take 64) (drop-append-le (64 * k) bytes more (omega arith))
    ∙ take-append-le 64 (drop (64 * k) bytes) more (omega (arith, len))

-- what the closed blocks hand on does not change either
pub chaining_value_at-append : (mode : Mode) (number : ℕ) (bytes more : List ℕ) (k : ℕ) → 64 * k ≤ length bytes
    → chaining_value_at mode number (bytes ++ more) k ≡ chaining_value_at mode number bytes k
unfolding chaining_value_at
chaining_value_at-append mode number bytes more zero within = refl
chaining_value_at-append mode number bytes more (suc k) within =
    let before = chaining_value_at-append mode number bytes more k (omega arith) in
    let block = block_at-append bytes more k (omega arith) in
    ap chaining (λ i. block_node mode number k (before i) (block i))

-- bytes are appended to the open block
pub HasBytes-append : (mode : Mode) (number : ℕ) (chunk_state : ChunkState) (bytes piece block : List ℕ)
    → HasBytes mode number chunk_state bytes → block ≡ chunk_state.block ++ piece
    → HasBytes mode number (record { blocks = chunk_state.blocks; h = chunk_state.h; block = block }) (bytes ++ piece)
HasBytes-append mode number chunk_state bytes piece block held block_is =
    let len = held.len in
    let within : 64 * chunk_state.blocks ≤ length bytes = omega arith in record {
      len = omega (arith, length-append bytes piece, ap length block_is, length-append chunk_state.block piece);
      h = held.h ∙ sym (chaining_value_at-append mode number bytes piece chunk_state.blocks within);
      block = block_is ∙ ap (λ b. b ++ piece) held.block
          ∙ sym (drop-append-le (64 * chunk_state.blocks) bytes piece within);
    }

-- whole blocks are closed as they come, where the open block has no bytes
pub HasBytes-chained : (mode : Mode) (number : ℕ) (chunk_state : ChunkState) (bytes blocks h : List ℕ) (n : ℕ)
    → HasBytes mode number chunk_state bytes → length chunk_state.block ≡ 0 → length blocks ≡ 64 * n
    → ((chunk : List ℕ) → chunk_state.h ≡ chaining_value_at mode number chunk chunk_state.blocks
    → blocks ≡ take (length blocks) (drop (64 * chunk_state.blocks) chunk)
    → h ≡ chaining_value_at mode number chunk (chunk_state.blocks + length blocks / 64))
    → HasBytes mode number (record { blocks = chunk_state.blocks + n; h = h; block = chunk_state.block })
    (bytes ++ blocks)
HasBytes-chained mode number chunk_state bytes blocks h n held empty count each =
    let k : ℕ = chunk_state.blocks in
    let len = held.len in
    let all = length-append bytes blocks in
    let start : length bytes ≡ 64 * k = omega arith in
    let many : length blocks / 64 ≡ n = omega arith in
    let reaches = held.h ∙ sym (chaining_value_at-append mode number bytes blocks k (omega arith)) in
    let among : blocks ≡ take (length blocks) (drop (64 * k) (bytes ++ blocks)) =
    sym (ap (take (length blocks)) (drop_at bytes blocks (64 * k) start) ∙ take_all (length blocks) blocks (omega arith)) in
    record {
      len = omega arith;
      h = each (bytes ++ blocks) reaches among ∙ ap (λ j. chaining_value_at mode number (bytes ++ blocks) (k + j)) many;
      block = held.block ∙ drop_all (64 * k) bytes (omega arith)
          ∙ sym (drop_all (64 * (k + n)) (bytes ++ blocks) (omega arith));
    }

-- bytes that the open block has room for leave the closed blocks as they are
pub IsChunkState-within : (mode : Mode) (number : ℕ) (old new : ChunkState) (bytes piece : List ℕ)
    → IsChunkState mode number old bytes → HasBytes mode number new (bytes ++ piece)
    → new.blocks ≡ old.blocks → length new.block ≤ 64
    → IsChunkState mode number new (bytes ++ piece)
IsChunkState-within mode number old new bytes piece is_chunk_state held same fits =
    let len = held.len in
    let old_len = is_chunk_state.has_bytes.len in
    let all = length-append bytes piece in
    let last = is_chunk_state.last in
    record { has_bytes = held; last = omega arith }

-- a chunk whose open block has a byte is begun
pub IsChunkState-open : (mode : Mode) (number : ℕ) (chunk_state : ChunkState) (bytes : List ℕ)
    → HasBytes mode number chunk_state bytes → 0 < length chunk_state.block → length chunk_state.block ≤ 64
    → IsChunkState mode number chunk_state bytes
IsChunkState-open mode number chunk_state bytes held some fits =
    let len = held.len in
    record { has_bytes = held; last = omega arith }

-- a piece of a list, after what comes before it
pub take-piece : (from to : ℕ) (bytes : List ℕ) → from ≤ to
    → take from bytes ++ take (to - from) (drop from bytes) ≡ take to bytes
take-piece from to bytes order =
    let end : from + (to - from) ≡ to = omega arith in
    let front = take-take from to bytes order in
    let back : drop from (take to bytes) ≡ take (to - from) (drop from bytes) =
    ap (λ k. drop from (take k bytes)) (sym end) ∙ drop-take from (to - from) bytes in
    (λ i. sym front i ++ sym back i) ∙ take-append-drop from (take to bytes)
