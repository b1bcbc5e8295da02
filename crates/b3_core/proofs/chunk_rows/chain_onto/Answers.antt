use Rattle.std.proofs.Common.{◌≡◌, ◌+◌, ◌/◌, length, ap, sym, ◌∙◌, arith}
use Rattle.b3_core.specs.Chunks.{block_flags, chained_blocks}
use Rattle.b3_core.proofs.ChunkNodes.{block_flags-inner, chained_blocks-chunk, chained_blocks-suc}
use Rattle.b3_core.proofs.chunk_rows.chain_onto.Goals as goal

pub loop-k-init : goal.loop-k-init
unfolding chained_blocks
loop-k-init c =
    let start : c.args.index ≡ c.args.index + 0 = omega arith in
    record {
      chaining = c.chaining_rows-value.ensures.chaining;
      flags = c.block_flags-flags.ensures ∙ ap (block_flags c.args.mode.now) start;
      chained = c.chaining_rows-value.ensures.words;
    }

pub loop-k-preserved : goal.loop-k-preserved
loop-k-preserved c = record {
  chaining = c.chained-next.ensures.chaining;
  flags = sym (block_flags-inner c.args.mode.now (c.args.index + (c.loop-k.k + 1)) (λ is. omega (arith, is)));
  chained = c.chained-next.ensures.words
      ∙ chained_blocks-suc c.args.mode.now c.args.number c.args.index c.loop-k.k c.args.h.now c.args.blocks.now _ _ _
      (omega (arith, c.loop-k-test.true)) c.loop-k.invariant.chained
      (c.arranged-m.ensures.words ∙ c.load_rows.ensures.words) c.loop-k.invariant.flags;
}

pub returns-clause-value : goal.returns-clause-value
returns-clause-value c =
    let all : c.loop-k.k ≡ length c.args.blocks.now / 64 = omega (arith, c.loop-k-test.false, c.loop-k.auto.k-end) in
    c.chaining_words.ensures
    ∙ c.loop-k.invariant.chained
    ∙ ap (chained_blocks c.args.mode.now c.args.number c.args.index c.args.h.now c.args.blocks.now) all

pub returns-clause-chunk : goal.returns-clause-chunk
returns-clause-chunk c chunk reaches among =
    let n = length c.args.blocks.now / 64 in
    let all : c.loop-k.k ≡ n = omega (arith, c.loop-k-test.false, c.loop-k.auto.k-end) in
    c.chaining_words.ensures
    ∙ c.loop-k.invariant.chained
    ∙ ap (chained_blocks c.args.mode.now c.args.number c.args.index c.args.h.now c.args.blocks.now) all
    ∙ chained_blocks-chunk c.args.mode.now c.args.number c.args.index c.args.h.now c.args.blocks.now chunk n among
    (omega arith) reaches
