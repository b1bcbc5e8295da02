use Rattle.std.proofs.Common.{◌≡◌, ◌*◌, ◌/◌, ◌%◌, ◌^◌, ◌∙◌, refl, sym, ap, subst, arith}
use Rattle.b3_core.specs.Tree.{top}
use Rattle.b3_hash.specs.OpenChunks.{chunk_state_len}
use Rattle.b3_hash.specs.ChunkHashers.{IsAllClosed}
use Rattle.b3_hash.specs.Hashers.{HasherState, length_of}
use Rattle.b3_hash.proofs.ChunkCounts.{aligned-bytes}
use Rattle.b3_hash.proofs.hasher.Hasher.push_aligned.Goals as goal

pub invariant_of-self : goal.invariant_of-self
invariant_of-self c =
    let whole = length_of c.args.self.now in
    let count = c.self.inside.chunks.count in
    let same = ap (λ (s : HasherState). s.chunks.count) c.self.view_is in
    let empty = ap (λ (s : HasherState). chunk_state_len s.chunks.chunk_state) c.self.view_is
    ∙ c.close_last.ensures.empty in
    let len : 1024 * count ≡ whole =
    omega (arith, same, c.close_last.ensures.empty, c.close_last.ensures.len) in record {
      empty = empty;
      level = c.requires.level;
      aligned = aligned-bytes c.args.level count (ap (λ k. k % (1024 * 2 ^ c.args.level)) len ∙ c.requires.aligned);
      fits = omega (arith, len, c.requires.fits);
    }

pub returns-clause-stands_for : goal.returns-clause-stands_for
returns-clause-stands_for c = λ before window held size node_is.
    let whole = length_of c.args.self.now in
    let count = c.self.inside.chunks.count in
    let same = ap (λ (s : HasherState). s.chunks.count) c.self.view_is in
    let mode = ap (λ (s : HasherState). s.chunks.mode) c.self.view_is ∙ c.close_last.ensures.mode in
    let len : 1024 * count ≡ whole = omega (arith, same, c.close_last.ensures.empty, c.close_last.ensures.len) in
    let number : whole / 1024 ≡ count = omega (arith, len) in record {
      before = before;
      bytes = window;
      parts = refl;
      closed = subst (λ (s : HasherState). IsAllClosed s.chunks before) (sym c.self.view_is)
          (c.close_last.ensures.closed before held);
      size = size;
      is_top = node_is ∙ (λ i. top (sym mode i) (number i) window);
    }
