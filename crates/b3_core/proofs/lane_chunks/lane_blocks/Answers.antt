use Rattle.std.proofs.Common.{◌≡◌, ℕ, ◌+◌, ◌*◌, take, drop, get_or, ap, ◌∙◌, arith}
use Rattle.std.proofs.lemmas.Bool.{cases_eq}
use Rattle.std.proofs.lemmas.List.{length-drop, length-take}
use Rattle.b3_core.specs.Words.{words_of}
use Rattle.b3_core.specs.Compression.{compress}
use Rattle.b3_core.specs.Chunks.{chunk_at}
use Rattle.b3_core.specs.Lanes.{after_blocks, lane}
use Rattle.b3_core.proofs.LaneChunks.{after_blocks-suc, block-of_chunk}
use Rattle.b3_core.proofs.lane_chunks.lane_blocks.Goals as goal

pub inner-preserved : goal.inner-preserved
inner-preserved c = record {
  wide = c.chainings8-next.ensures.wide;
  lanes = λ j lt begins before.
      let bytes = c.args.bytes.now in
      let number : ℕ = c.args.first + j in
      let k : ℕ = c.inner.k in
      let chunk = chunk_at bytes j in
      let m = lane j c.load16_transposed-m.result in
      let place : get_or c.args.offsets.now j 0 + 64 * k ≡ 1024 * j + 64 * k = ap (λ p. p + 64 * k) begins in
      let words = c.load16_transposed-m.ensures.lanes j lt
      ∙ ap words_of (block-of_chunk bytes _ j k (omega arith) place) in
      let long = length-take 1024 (drop (1024 * j) bytes) in
      let rest = length-drop (1024 * j) bytes in
      let room = c.requires.bytes j lt in
      c.chainings8-next.ensures.lanes j number lt (c.requires.low j lt) (c.requires.high j lt)
      ∙ ap (λ d. take 8 (compress (lane j c.inner.value) m number 64 d)) c.full_chunk_flags-flags.ensures
      ∙ after_blocks-suc c.args.mode.now number chunk k (lane j c.inner.value) m
      (omega (arith, long, rest, room, begins)) (omega (arith, long)) (cases_eq k 15)
      (c.inner.invariant.lanes j lt begins before) words;
}

pub returns-clause-lanes : goal.returns-clause-lanes
returns-clause-lanes c j lt begins before =
    let done : c.inner.k ≡ c.args.to = omega (arith, c.inner.auto.k-end, c.requires.order) in
    c.inner.invariant.lanes j lt begins before
    ∙ ap (after_blocks c.args.mode.now (c.args.first + j) (chunk_at c.args.bytes.now j)) done
