use Rattle.std.proofs.Common.{◌≡◌, ℕ, List, ◌+◌, ◌*◌, ◌<◌, ◌≤◌, ◌∙◌, length, take, ap, sym, arith}
use Rattle.std.proofs.lemmas.List.{length-drop, length-take-le}
use Rattle.b3_core.specs.Nodes.{chaining}
use Rattle.b3_core.specs.Chunks.{chunk_node}
use Rattle.b3_core.proofs.Parts.{part-front}
use Rattle.b3_hash.specs.Stacks.{stack_of}
use Rattle.b3_hash.proofs.Runs.{subtree_chaining-chunk_at}
use Rattle.b3_hash.proofs.subtree_stack.SubtreeStack.push_seven.Goals as goal

pub chunks-preserved : goal.chunks-preserved
chunks-preserved c =
    let mode = c.args.mode.now in
    let bytes = c.args.bytes.now in
    let start = c.args.self.now.chunks in
    let j = c.chunks.j in
    let count : ℕ = 7 in
    let held = c.chunks.invariant in
    let next = c.push.ensures.chunks in record {
      chunks = omega (arith, next, held.chunks);
      values = λ input bytes_is stack_is.
          let rest_len = ap length bytes_is ∙ length-drop (1024 * start) input in
          let within : 1024 * j + 1024 ≤ 1024 * count = omega arith in
          let long = length-take-le (1024 * count) bytes (omega (arith, c.requires.more)) in
          let value_is = c.chain_chunks-values.ensures j (omega (arith, long))
          ∙ ap (λ xs. chaining (chunk_node mode (start + j) xs)) (part-front 1 j (1024 * count) bytes within)
          ∙ subtree_chaining-chunk_at mode input bytes start j c.chunks.self.chunks bytes_is held.chunks in
          c.push.ensures.values input (omega (arith, held.chunks, rest_len, c.requires.more)) value_is
          (held.values input bytes_is stack_is)
          ∙ ap (stack_of 54 0 mode input) (sym next);
    }

seven_chunks : (bytes : List ℕ) → 8192 < length bytes → length (take (1024 * 7) bytes) ≡ 1024 * 7
seven_chunks bytes more = length-take-le (1024 * 7) bytes (omega (arith, more))

pub slice_bounds-chain_chunks-end : goal.slice_bounds-chain_chunks-end
slice_bounds-chain_chunks-end c = omega (arith, seven_chunks c.args.bytes.now c.requires.more)

pub chain_chunks-values-requires-clause-some : goal.chain_chunks-values-requires-clause-some
chain_chunks-values-requires-clause-some c = omega (arith, seven_chunks c.args.bytes.now c.requires.more)

pub chain_chunks-values-requires-clause-few : goal.chain_chunks-values-requires-clause-few
chain_chunks-values-requires-clause-few c = omega (arith, seven_chunks c.args.bytes.now c.requires.more)
