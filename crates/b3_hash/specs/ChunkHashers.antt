-- What an incremental hasher (BLAKE3 (2020), 5.1) keeps of chunks that came by their bytes, and of which bytes that is.
use Rattle.std.specs.Prelude.{◌≡◌, ℕ, ◌+◌, ◌*◌, ◌<◌, ◌≤◌, List, [], length, drop}
use Rattle.b3_core.specs.Chunks.{chunk_len}
use Rattle.b3_core.specs.declared.modes.Mode.{Mode}
use Rattle.b3_hash.specs.OpenChunks.{ChunkState, IsChunkState, chunk_state_len}
use Rattle.b3_hash.specs.Stacks.{stack_of}

-- the mode, the number of closed chunks, the chaining values of the subtrees that these make up, and the
-- state of the open chunk
pub record ChunkHasherState : Type 0 where
  pub mode : Mode
  pub count : ℕ
  pub stack : List (List ℕ)
  pub chunk_state : ChunkState

-- the number of their bytes
abbrev pub chunks_len : ChunkHasherState → ℕ
chunks_len chunks = chunk_len * chunks.count + chunk_state_len chunks.chunk_state

-- the input ends with the open chunk: the chunks before it are closed, and their subtrees are on
-- the stack; it has a byte unless there are no bytes at all. It may be full, and stays open until a
-- further byte comes, since it may be the root.
pub record EndsWithChunk (chunks : ChunkHasherState) (input : List ℕ) : Type 0 where
  pub stack : chunks.stack ≡ stack_of 54 0 chunks.mode input chunks.count
  pub chunk_state : IsChunkState chunks.mode chunks.count chunks.chunk_state (drop (chunk_len * chunks.count) input)
  pub closed : chunk_len * chunks.count ≤ length input
  pub further : 0 < chunks.count → chunk_len * chunks.count < length input
  pub last : length input ≤ chunk_len * (chunks.count + 1)

-- the input ends with a closed chunk, or has no bytes
pub record IsAllClosed (chunks : ChunkHasherState) (input : List ℕ) : Type 0 where
  pub stack : chunks.stack ≡ stack_of 54 0 chunks.mode input chunks.count
  pub chunk_state : (number : ℕ) → IsChunkState chunks.mode number chunks.chunk_state []
  pub whole : length input ≡ chunk_len * chunks.count
