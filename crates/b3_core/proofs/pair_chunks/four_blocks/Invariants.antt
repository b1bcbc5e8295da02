use Rattle.std.proofs.Common.{◌≡◌, ℕ, ◌+◌, ◌<◌}
use Rattle.b3_core.specs.Chunks.{chunk_at}
use Rattle.b3_core.specs.Lanes.{after_blocks}
use Rattle.b3_core.specs.Pairs.{AreWide, half_chaining}
use Rattle.b3_core.proofs.pair_chunks.four_blocks.Given as goal

abbrev pub invariant-inner : goal.invariant-inner
invariant-inner l = record {
  wide_front : AreWide l.front;
  wide_back : AreWide l.back;
  front : (p : ℕ) → p < 2
      → half_chaining p l.fn.pairs.0 ≡ after_blocks l.mode (l.first + p) (chunk_at l.bytes p) l.from
      → half_chaining p l.front ≡ after_blocks l.mode (l.first + p) (chunk_at l.bytes p) l.k;
  back : (p : ℕ) → p < 2 → (p ≡ 1 → l.last ≡ 3072)
      → half_chaining p l.fn.pairs.1 ≡ after_blocks l.mode (l.first + 2 + p) (chunk_at l.bytes (2 + p)) l.from
      → half_chaining p l.back ≡ after_blocks l.mode (l.first + 2 + p) (chunk_at l.bytes (2 + p)) l.k;
}
