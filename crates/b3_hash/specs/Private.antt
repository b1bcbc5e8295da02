-- What an open chunk keeps, and where a last window may stand (BLAKE3 (2020), 5.1): for private contracts, views and
-- invariants alone.
use Rattle.std.specs.Prelude.{◌≡◌, ⊤, ◌+◌, ◌*◌, ◌%◌, ◌^◌, ◌<◌, Option, None, Some, take}
use Rattle.b3_core.specs.Chunks.{chunk_len}
use Rattle.b3_hash.specs.declared.open_chunk.OpenChunk.{OpenChunk}
use Rattle.b3_hash.specs.declared.window.Window.{Window}
use Rattle.b3_hash.specs.OpenChunks.{ChunkState, chunk_state_len}
use Rattle.b3_hash.specs.ChunkHashers.{ChunkHasherState}

-- what an open chunk keeps of its bytes
abbrev pub chunk_state_of : OpenChunk → ChunkState
chunk_state_of chunk = record { blocks = chunk.closed_blocks; h = chunk.h; block = take chunk.block_len chunk.block }

-- where there is a window, the open chunk has no bytes, and the window stands at a multiple of its length and fits
pub record IsValidWindow (chunks : ChunkHasherState) (window : Window) : Type 0 where
  pub empty : chunk_state_len chunks.chunk_state ≡ 0
  pub level : window.level < 54
  pub aligned : chunks.count % 2 ^ window.level ≡ 0
  pub fits : chunk_len * (chunks.count + 2 ^ window.level) < 2 ^ 64

-- the same, where there may be no window
abbrev pub HasValidWindow : ChunkHasherState → Option Window → Type 0
HasValidWindow chunks None = ⊤
HasValidWindow chunks (Some window) = IsValidWindow chunks window
