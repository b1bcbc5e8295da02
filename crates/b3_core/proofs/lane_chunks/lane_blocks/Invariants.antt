use Rattle.std.proofs.Common.{◌≡◌, ℕ, ◌+◌, ◌*◌, ◌<◌, get_or}
use Rattle.b3_core.specs.Chunks.{chunk_at}
use Rattle.b3_core.specs.Lanes.{AreVectors, after_blocks, lane}
use Rattle.b3_core.proofs.lane_chunks.lane_blocks.Given as goal

abbrev pub invariant-inner : goal.invariant-inner
invariant-inner l = record {
  wide : AreVectors 8 l.value;
  lanes : (j : ℕ) → j < 8 → get_or l.offsets j 0 ≡ 1024 * j
      → lane j l.fn.h ≡ after_blocks l.mode (l.first + j) (chunk_at l.bytes j) l.from
      → lane j l.value ≡ after_blocks l.mode (l.first + j) (chunk_at l.bytes j) l.k;
}
