use Rattle.std.proofs.Common.{◌≡◌, ℕ, ◌+◌, ◌*◌, length, ◌∙◌, arith}
use Rattle.b3_core.specs.Chunks.{chunk_at}
use Rattle.b3_core.specs.Lanes.{after_blocks}
use Rattle.b3_core.specs.Pairs.{half_chaining, of_half}
use Rattle.b3_core.proofs.HalfRows.{half-next, of_half-either, of_half-within}
use Rattle.b3_core.proofs.pair_chunks.four_blocks.Goals as goal

pub inner-preserved : goal.inner-preserved
inner-preserved c =
    let bytes = c.args.bytes.now in
    let mode = c.args.mode.now in
    let k : ℕ = c.inner.k in
    let last : ℕ = c.args.last in record {
      wide_front = c.two_pair_chainings-next.ensures.wide.0;
      wide_back = c.two_pair_chainings-next.ensures.wide.1;
      front = λ p p_in before.
          let place : of_half p (64 * k) (1024 + 64 * k) ≡ 1024 * p + 64 * k =
          of_half-either p (64 * k) (1024 + 64 * k) (1024 * p + 64 * k) p_in
          (λ is. omega (arith, is)) (λ is. omega (arith, is)) in
          half-next mode bytes (c.args.first + p) p k _ _ (half_chaining p c.inner.front) _ _ place
          (omega arith) (omega (arith, place)) (c.inner.invariant.front p p_in before)
          (c.load_pair_rows-m.ensures.words p p_in) c.full_chunk_flags-flags.ensures
          (c.two_pair_chainings-next.ensures.front p p_in);
      back = λ p p_in at before.
          let place : of_half p (2048 + 64 * k) (last + 64 * k) ≡ 1024 * (2 + p) + 64 * k =
          of_half-either p (2048 + 64 * k) (last + 64 * k) (1024 * (2 + p) + 64 * k) p_in
          (λ is. omega (arith, is)) (λ is. omega (arith, is, at is)) in
          half-next mode bytes (c.args.first + 2 + p) (2 + p) k _ _ (half_chaining p c.inner.back) _ _ place
          (omega arith) (of_half-within p (2048 + 64 * k) (last + 64 * k) 64 (length bytes) (omega arith) (omega arith))
          (c.inner.invariant.back p p_in at before)
          (c.load_pair_rows-w.ensures.words p p_in) c.full_chunk_flags-flags.ensures
          (c.two_pair_chainings-next.ensures.back p p_in);
    }

pub returns-clause-front : goal.returns-clause-front
returns-clause-front c p p_in before =
    let done : c.inner.k ≡ c.args.to = omega (arith, c.inner.auto.k-end, c.requires.order) in
    c.inner.invariant.front p p_in before
    ∙ (λ i. after_blocks c.args.mode.now (c.args.first + p) (chunk_at c.args.bytes.now p) (done i))

pub returns-clause-back : goal.returns-clause-back
returns-clause-back c p p_in at before =
    let done : c.inner.k ≡ c.args.to = omega (arith, c.inner.auto.k-end, c.requires.order) in
    c.inner.invariant.back p p_in at before
    ∙ (λ i. after_blocks c.args.mode.now (c.args.first + 2 + p) (chunk_at c.args.bytes.now (2 + p)) (done i))
