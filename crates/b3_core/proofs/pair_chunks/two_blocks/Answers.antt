use Rattle.std.proofs.Common.{◌≡◌, ℕ, ◌+◌, ◌*◌, ◌∙◌, arith}
use Rattle.b3_core.specs.Chunks.{chunk_at}
use Rattle.b3_core.specs.Lanes.{after_blocks}
use Rattle.b3_core.specs.Pairs.{half_chaining, of_half}
use Rattle.b3_core.proofs.HalfRows.{half-next, of_half-either}
use Rattle.b3_core.proofs.pair_chunks.two_blocks.Goals as goal

pub inner-preserved : goal.inner-preserved
inner-preserved c = record {
  wide = c.pair_chainings-next.ensures.wide;
  words = λ p p_in before.
      let k : ℕ = c.inner.k in
      let place : of_half p (64 * k) (1024 + 64 * k) ≡ 1024 * p + 64 * k =
      of_half-either p (64 * k) (1024 + 64 * k) (1024 * p + 64 * k) p_in (λ is. omega (arith, is)) (λ is. omega (arith, is)) in
      half-next c.args.mode.now c.args.bytes.now (c.args.first + p) p k _ _ (half_chaining p c.inner.value) _ _ place
      (omega arith) (omega (arith, place)) (c.inner.invariant.words p p_in before) (c.load_pair_rows-m.ensures.words p p_in)
      c.full_chunk_flags.ensures (c.pair_chainings-next.ensures.words p p_in);
}

pub returns-clause-words : goal.returns-clause-words
returns-clause-words c p p_in before =
    let done : c.inner.k ≡ c.args.to = omega (arith, c.inner.auto.k-end, c.requires.order) in
    c.inner.invariant.words p p_in before
    ∙ (λ i. after_blocks c.args.mode.now (c.args.first + p) (chunk_at c.args.bytes.now p) (done i))
