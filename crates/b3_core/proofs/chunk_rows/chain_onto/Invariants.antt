use Rattle.std.proofs.Common.{◌≡◌, ◌+◌}
use Rattle.b3_core.specs.Chunks.{block_flags, chained_blocks}
use Rattle.b3_core.specs.Rows.{AreChainingRows, chaining_words}
use Rattle.b3_core.proofs.chunk_rows.chain_onto.Given as goal

abbrev pub invariant-loop-k : goal.invariant-loop-k
invariant-loop-k l = record {
  chaining : AreChainingRows l.value;
  flags : l.flags ≡ block_flags l.mode (l.index + l.k);
  chained : chaining_words l.value ≡ chained_blocks l.mode l.number l.index l.h l.blocks l.k;
}
