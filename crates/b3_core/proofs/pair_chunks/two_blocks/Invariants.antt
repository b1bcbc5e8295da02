use Rattle.std.proofs.Common.{◌≡◌, ℕ, ◌+◌, ◌<◌}
use Rattle.b3_core.specs.Chunks.{chunk_at}
use Rattle.b3_core.specs.Lanes.{after_blocks}
use Rattle.b3_core.specs.Pairs.{AreWide, half_chaining}
use Rattle.b3_core.proofs.pair_chunks.two_blocks.Given as goal

abbrev pub invariant-inner : goal.invariant-inner
invariant-inner l = record {
  wide : AreWide l.value;
  words : (p : ℕ) → p < 2
      → half_chaining p l.fn.h ≡ after_blocks l.mode (l.first + p) (chunk_at l.bytes p) l.from
      → half_chaining p l.value ≡ after_blocks l.mode (l.first + p) (chunk_at l.bytes p) l.k;
}
