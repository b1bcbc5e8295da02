-- A hasher and the bytes that it stands for.
use Rattle.std.proofs.Common.{◌≡◌, ℕ, ◌+◌, ◌-◌, ◌*◌, ◌/◌, ◌%◌, ◌^◌, ◌<◌, ◌≤◌, List, [], ◌++◌, Option, None, Some}
use Rattle.std.proofs.Common.{length, take, drop, sym, ap, ◌∙◌, subst, inl, inr, append_assoc, arith}
use Rattle.std.proofs.lemmas.List.{length-append, length-drop, length-take, length-take-le, drop_all, drop_at, drop-append-le}
use Rattle.std.proofs.lemmas.List.{take_all, take-append-drop}
use Rattle.std.proofs.lemmas.Bool.{cases_lt}
use Rattle.b3_core.specs.Nodes.{chaining}
use Rattle.b3_core.specs.Tree.{top}
use Rattle.b3_core.specs.declared.modes.Mode.{Mode}
use Rattle.b3_core.specs.declared.nodes.Node.{Node}
use Rattle.b3_hash.specs.declared.open_chunk.OpenChunk.{OpenChunk}
use Rattle.b3_hash.specs.OpenChunks.{ChunkState, IsChunkState, chunk_state_len}
use Rattle.b3_hash.specs.Private.{chunk_state_of}
use Rattle.b3_hash.specs.Stacks.{stack_of, subtree_chaining}
use Rattle.b3_hash.specs.ChunkHashers.{ChunkHasherState, EndsWithChunk, IsAllClosed, chunks_len}
use Rattle.b3_hash.specs.declared.window.Window.{Window}
use Rattle.b3_hash.specs.Hashers.{EndsWith, EndsWithWindow, HasherState, StandsFor, length_of, window_len}
use Rattle.b3_hash.proofs.ChunkStates.{IsChunkState-nil}
use Rattle.b3_hash.proofs.Runs.{drop-behind, subtree_chaining-at}
use Rattle.b3_hash.proofs.Merging.{stack_of-append}

-- the length of an open chunk, by its fields
pub chunk_state_len-chunk_state_of : (chunk : OpenChunk)
    → chunk_state_len (chunk_state_of chunk) ≡ 64 * chunk.closed_blocks + chunk.block_len
chunk_state_len-chunk_state_of chunk =
    omega (arith, length-take chunk.block_len chunk.block, chunk.block_size, chunk.block_fits)

-- what ends with a chunk has the length of the chunks
pub length-EndsWithChunk : (chunks : ChunkHasherState) (input : List ℕ) → EndsWithChunk chunks input
    → length input ≡ chunks_len chunks
length-EndsWithChunk chunks input held =
    let len = held.chunk_state.has_bytes.len in
    let closed = held.closed in
    omega (arith, length-drop (1024 * chunks.count) input)

-- further bytes of the last chunk
pub EndsWithChunk-append : (mode : Mode) (count : ℕ) (stack : List (List ℕ)) (chunk_state after : ChunkState)
    → (before front : List ℕ)
    → EndsWithChunk (record { mode = mode; count = count; stack = stack; chunk_state = chunk_state }) before
    → chunk_state_len chunk_state + length front ≤ 1024
    → IsChunkState mode count after (drop (1024 * count) before ++ front)
    → EndsWithChunk (record { mode = mode; count = count; stack = stack; chunk_state = after }) (before ++ front)
EndsWithChunk-append mode count stack chunk_state after before front held room after_is =
    let len = length-EndsWithChunk (record { mode = mode; count = count; stack = stack; chunk_state = chunk_state })
    before held in
    let whole = length-append before front in
    let closed = held.closed in record {
      stack = held.stack ∙ sym (stack_of-append 54 0 mode before front count held.closed);
      chunk_state = subst (IsChunkState mode count after)
          (sym (drop-append-le (1024 * count) before front held.closed)) after_is;
      closed = omega arith;
      further = λ some. let more = held.further some in omega arith;
      last = omega arith;
    }

-- bytes after whole chunks: all chunks but the last are closed, and the last is begun
pub EndsWithChunk-begin : (mode : Mode) (start count : ℕ) (stack : List (List ℕ)) (after : ChunkState)
    → (before input rest : List ℕ)
    → length before ≡ 1024 * start → start ≤ count
    → 1024 * count + length rest ≡ 1024 * start + length input
    → rest ≡ drop (1024 * (count - start)) input
    → (0 < start → 0 < length input) → (0 < length input → 0 < length rest) → length rest ≤ 1024
    → stack ≡ stack_of 54 0 mode (before ++ input) count
    → IsChunkState mode count after rest
    → EndsWithChunk (record { mode = mode; count = count; stack = stack; chunk_state = after }) (before ++ input)
EndsWithChunk-begin mode start count stack after before input rest len order both rest_is more some fits stack_is
    after_is =
    let whole = length-append before input in
    let from : 1024 * start + 1024 * (count - start) ≡ 1024 * count = omega arith in
    let behind : rest ≡ drop (1024 * count) (before ++ input) =
    rest_is
    ∙ sym (drop-behind before input (1024 * start) (1024 * (count - start)) len)
    ∙ ap (λ k. drop k (before ++ input)) from in record {
      stack = stack_is;
      chunk_state = subst (IsChunkState mode count after) behind after_is;
      closed = omega arith;
      further = λ positive.
          let given : 0 < length input = elim (cases_lt 0 start) [ inl held ↦ more held | inr none ↦ omega arith ] in
          let left = some given in
          omega arith;
      last = omega arith;
    }

-- a hasher with no begun chunk has no bytes, so all its chunks are closed
pub IsAllClosed-none : (chunks : ChunkHasherState) (input : List ℕ) → EndsWithChunk chunks input
    → chunk_state_len chunks.chunk_state ≡ 0
    → IsAllClosed chunks input
IsAllClosed-none chunks input held empty =
    let len = length-EndsWithChunk chunks input held in
    let none : drop (1024 * chunks.count) input ≡ [] = drop_all (1024 * chunks.count) input (omega arith) in record {
      stack = held.stack;
      chunk_state = λ number. IsChunkState-nil chunks.mode chunks.count number chunks.chunk_state
          (subst (IsChunkState chunks.mode chunks.count chunks.chunk_state) none held.chunk_state);
      whole = omega arith;
    }

-- the last chunk, which is full, is closed
pub IsAllClosed-close : (mode : Mode) (count next : ℕ) (stack stack_next : List (List ℕ))
    (chunk_state fresh : ChunkState)
    → (input : List ℕ)
    → EndsWithChunk (record { mode = mode; count = count; stack = stack; chunk_state = chunk_state }) input
    → chunk_state_len chunk_state ≡ 1024 → next ≡ count + 1
    → stack_next ≡ stack_of 54 0 mode input (count + 1)
    → ((number : ℕ) → IsChunkState mode number fresh [])
    → IsAllClosed (record { mode = mode; count = next; stack = stack_next; chunk_state = fresh }) input
IsAllClosed-close mode count next stack stack_next chunk_state fresh input held full next_is stack_is fresh_is =
    let chunks : ChunkHasherState = record { mode = mode; count = count; stack = stack; chunk_state = chunk_state } in
    let len = length-EndsWithChunk chunks input held in record {
      stack = stack_is ∙ ap (stack_of 54 0 mode input) (sym next_is);
      chunk_state = fresh_is;
      whole = omega arith;
    }

-- the next chunks, a subtree of some level, are closed
pub IsAllClosed-push : (mode : Mode) (count next level : ℕ) (stack after : List (List ℕ)) (chunk_state : ChunkState)
    → (before bytes : List ℕ) (node : Node) (value : List ℕ)
    → IsAllClosed (record { mode = mode; count = count; stack = stack; chunk_state = chunk_state }) before
    → length bytes ≡ 1024 * 2 ^ level → count % 2 ^ level ≡ 0
    → node ≡ top mode count bytes → value ≡ chaining node
    → next ≡ count + 2 ^ level
    → ((input : List ℕ) → 1024 * (count + 2 ^ level) ≤ length input
    → value ≡ subtree_chaining mode level input (count / 2 ^ level)
    → stack ≡ stack_of 54 0 mode input count
    → after ≡ stack_of 54 0 mode input (count + 2 ^ level))
    → IsAllClosed (record { mode = mode; count = next; stack = after; chunk_state = chunk_state }) (before ++ bytes)
IsAllClosed-push mode count next level stack after chunk_state before bytes node value closed len aligned
    node_is value_is
    next_is pushed =
    let input = before ++ bytes in
    let before_len = closed.whole in
    let input_len = length-append before bytes in
    let within : 1024 * 2 ^ 0 * count ≤ length before =
    (let plain : 1024 * 1 * count ≤ length before = omega arith in plain) in
    let behind : take (1024 * 2 ^ level) (drop (1024 * count) input) ≡ bytes =
    ap (take (1024 * 2 ^ level)) (drop_at before bytes (1024 * count) before_len)
    ∙ take_all (1024 * 2 ^ level) bytes (omega arith) in
    let subtree_is =
    value_is
    ∙ ap chaining (node_is ∙ ap (top mode count) (sym behind))
    ∙ sym (subtree_chaining-at level mode input count aligned) in
    record {
      stack = pushed input (omega (arith, input_len, len, before_len)) subtree_is
          (closed.stack ∙ sym (stack_of-append 54 0 mode before bytes count within))
          ∙ ap (stack_of 54 0 mode input) (sym next_is);
      chunk_state = closed.chunk_state;
      whole = omega (arith, input_len, len, before_len, next_is);
    }

-- bytes after whole chunks, of which the last are one subtree: all chunks before that are closed
pub EndsWithWindow-begin : (mode : Mode) (start count level : ℕ) (stack : List (List ℕ)) (chunk_state : ChunkState)
    → (before input rest : List ℕ) (node : Node)
    → length before ≡ 1024 * start → start ≤ count
    → 1024 * count + length rest ≡ 1024 * start + length input
    → rest ≡ drop (1024 * (count - start)) input
    → stack ≡ stack_of 54 0 mode (before ++ input) count
    → ((number : ℕ) → IsChunkState mode number chunk_state [])
    → length rest ≡ 1024 * 2 ^ level → node ≡ top mode count rest
    → EndsWithWindow (record { mode = mode; count = count; stack = stack; chunk_state = chunk_state })
    (record { node = node; level = level }) (before ++ input)
EndsWithWindow-begin mode start count level stack chunk_state before input rest node len order both rest_is
    stack_is empty
    size node_is =
    let front = take (1024 * (count - start)) input in
    let front_len : length front ≡ 1024 * (count - start) =
    length-take-le (1024 * (count - start)) input (omega arith) in
    let whole : front ++ rest ≡ input =
    ap (λ bytes. front ++ bytes) rest_is ∙ take-append-drop (1024 * (count - start)) input in
    let parts : before ++ input ≡ (before ++ front) ++ rest =
    sym (append_assoc before front rest ∙ ap (λ bytes. before ++ bytes) whole) in
    let closed_len : length (before ++ front) ≡ 1024 * count = omega (arith, length-append before front) in record {
      before = before ++ front;
      bytes = rest;
      parts = parts;
      closed = record {
        stack = stack_is
            ∙ ap (λ bytes. stack_of 54 0 mode bytes count) parts
            ∙ stack_of-append 54 0 mode (before ++ front) rest count (omega arith);
        chunk_state = empty;
        whole = closed_len;
      };
      size = size;
      is_top = node_is;
    }

-- what ends with a window has the length of both parts
pub length-EndsWithWindow : (chunks : ChunkHasherState) (window : Window) (input : List ℕ)
    → EndsWithWindow chunks window input
    → length input ≡ chunks_len chunks + 1024 * 2 ^ window.level
length-EndsWithWindow chunks window input held =
    let parts = ap length held.parts ∙ length-append held.before held.bytes in
    let empty = (held.closed.chunk_state 0).has_bytes.len in
    omega (arith, parts, empty, held.closed.whole, held.size)

-- what ends with a window or with a chunk
length-EndsWith : (chunks : ChunkHasherState) (window : Option Window) (input : List ℕ) → EndsWith chunks window input
    → length input ≡ chunks_len chunks + window_len window
length-EndsWith chunks None input held = let len = length-EndsWithChunk chunks input held in omega arith
length-EndsWith chunks (Some window) input held = length-EndsWithWindow chunks window input held

-- what a hasher stands for has its length
pub length-StandsFor : (state : HasherState) (input : List ℕ) → StandsFor state input → length input ≡ length_of state
length-StandsFor state input held = length-EndsWith state.chunks state.window input held
