use Rattle.std.proofs.Common.{◌≡◌, ◌*◌, ◌/◌, ◌%◌, ◌^◌, ◌++◌, ◌∙◌, length, sym, ap, subst, arith}
use Rattle.b3_core.specs.Tree.{top}
use Rattle.b3_hash.specs.ChunkHashers.{IsAllClosed}
use Rattle.b3_hash.specs.Hashers.{HasherState, StandsFor, length_of, mode_of}
use Rattle.b3_hash.proofs.ChunkCounts.{aligned-bytes}
use Rattle.b3_hash.proofs.Standing.{length-StandsFor}
use Rattle.b3_hash.proofs.hasher.Hasher.finish_with.Goals as goal

pub returns : goal.returns
returns c = λ level before window held low aligned fits some last_is.
    let copy = c.copied-closed.ensures in
    let count = c.closed.inside.chunks.count in
    let same = ap (λ (s : HasherState). s.chunks.count) c.closed.view_is in
    let mode = ap mode_of c.closed.view_is ∙ c.close_last.ensures.mode ∙ ap mode_of copy in
    let len : 1024 * count ≡ length before =
    omega (
      arith,
      same,
      c.close_last.ensures.empty,
      c.close_last.ensures.len,
      ap length_of copy,
      length-StandsFor c.args.self.now before held,
    ) in
    let number : length before / 1024 ≡ count = omega (arith, len) in
    let count_aligned = aligned-bytes level count (ap (λ k. k % (1024 * 2 ^ level)) len ∙ aligned) in
    let closed = subst (λ (s : HasherState). IsAllClosed s.chunks before) (sym c.closed.view_is)
    (c.close_last.ensures.closed before (subst (λ (s : HasherState). StandsFor s before) (sym copy) held)) in
    let node = c.root_over.ensures level before window low count_aligned closed
    (last_is ∙ (λ i. top (sym mode i) (number i) window)) fits (λ positive. some (omega (arith, len, positive)))
    ∙ ap (λ m. top m 0 (before ++ window)) mode in
    c.from_node.ensures ∙ (λ i. record { node = node i; place = 0 })
