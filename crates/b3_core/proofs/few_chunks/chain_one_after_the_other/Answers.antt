use Rattle.std.proofs.Common.{◌≡◌, ℕ, ◌+◌, ◌*◌, ◌/◌, [], take, drop, length, refl, sym, ap, ◌∙◌, arith}
use Rattle.std.proofs.lemmas.List.{get_or-set_other, get_or-set_same, length-take-le, take-take}
use Rattle.b3_core.specs.Nodes.{chaining}
use Rattle.b3_core.specs.Chunks.{chaining_value_at, chunk_at, chunk_node}
use Rattle.b3_core.proofs.Parts.{part-front}
use Rattle.b3_core.proofs.few_chunks.chain_one_after_the_other.Goals as goal

pub returns-clause-chunks : goal.returns-clause-chunks
returns-clause-chunks c j j_in =
    let n : ℕ = c.args.n in
    let bytes = c.args.bytes.now in
    get_or-set_other c.chain_chunks-lists.result n j c.chain_blocks.result [] (λ is. omega (arith, is))
    ∙ c.chain_chunks-lists.ensures j (omega (arith, c.split_at.ensures.front_len))
    ∙ ap (λ xs. chaining (chunk_node c.args.mode.now (c.args.first + j) xs))
    (ap (λ b. chunk_at b j) c.split_at.ensures.front ∙ part-front 1 j (1024 * n) bytes (omega arith))

pub returns-clause-beside : goal.returns-clause-beside
unfolding chaining_value_at
returns-clause-beside c =
    let n : ℕ = c.args.n in
    let b : ℕ = c.args.blocks in
    let bytes = c.args.bytes.now in
    let rest = c.split_at.result.1.now in
    let chunk = chunk_at bytes n in
    let long : length (take (64 * b) rest) ≡ 64 * b =
    length-take-le (64 * b) rest (omega (arith, c.split_at.ensures.back_len)) in
    let count : 0 + length (take (64 * b) rest) / 64 ≡ b = omega (arith, long) in
    let slice = ap (take (64 * b)) c.split_at.ensures.back
    ∙ sym (take-take (64 * b) 1024 (drop (1024 * n) bytes) (omega arith))
    ∙ ap (λ m. take m chunk) (sym long) in
    get_or-set_same c.chain_chunks-lists.result n c.chain_blocks.result [] (omega (arith, c.requires.room))
    ∙ c.chain_blocks.ensures.chunk chunk refl slice
    ∙ ap (chaining_value_at c.args.mode.now (c.args.first + n) chunk) count
