use Rattle.std.proofs.Common.{◌≡◌, ℕ, ◌+◌, ◌-◌, ◌*◌, ◌/◌, ◌∙◌, length, take, drop, ap, sym, arith}
use Rattle.std.proofs.lemmas.List.{length-drop, take_all}
use Rattle.b3_core.specs.Chunks.{chaining_value_at, chunk_at}
use Rattle.b3_hash.specs.Stacks.{stack_of}
use Rattle.b3_hash.proofs.Runs.{subtree_chaining-chunk_at}
use Rattle.b3_hash.proofs.subtree_stack.SubtreeStack.push_few.Goals as goal

pub chunks-preserved : goal.chunks-preserved
chunks-preserved c =
    let mode = c.args.mode.now in
    let bytes = c.args.bytes.now in
    let start = c.args.self.now.chunks in
    let j = c.chunks.j in
    let held = c.chunks.invariant in
    let next = c.push.ensures.chunks in record {
      chunks = omega (arith, next, held.chunks);
      values = λ input bytes_is stack_is.
          let rest_len = ap length bytes_is ∙ length-drop (1024 * start) input in
          c.push.ensures.values input (omega (arith, held.chunks, rest_len))
          (c.chain_chunks_beside-values.ensures.chunks j (omega arith)
          ∙ subtree_chaining-chunk_at mode input bytes start j c.chunks.self.chunks bytes_is held.chunks)
          (held.values input bytes_is stack_is)
          ∙ ap (stack_of 54 0 mode input) (sym next);
    }

pub returns-clause-rest : goal.returns-clause-rest
returns-clause-rest c =
    let done : 1024 * ((length c.args.bytes.now - 1) / 1024) ≡ 1024 * (c.chunks.self.chunks - c.args.self.now.chunks) =
    omega (arith, c.chunks.invariant.chunks, c.chunks.auto.j-end, c.chunks-test.false) in
    c.split_at.ensures.back ∙ ap (λ k. drop k c.args.bytes.now) done

pub returns-clause-reached : goal.returns-clause-reached
returns-clause-reached c =
    let last = c.split_at.result.1.now in
    let count : ℕ = (length c.args.bytes.now - 1) / 1024 in
    let number : c.args.self.now.chunks + count ≡ c.chunks.self.chunks =
    omega (arith, c.chunks.invariant.chunks, c.chunks.auto.j-end, c.chunks-test.false) in
    let chunk : chunk_at c.args.bytes.now count ≡ last =
    ap (take 1024) (sym c.split_at.ensures.back)
    ∙ take_all 1024 last (omega (arith, c.split_at.ensures.back_len)) in
    c.chain_chunks_beside-values.ensures.beside
    ∙ (λ i. chaining_value_at c.args.mode.now (number i) (chunk i) ((length last - 1) / 64))
