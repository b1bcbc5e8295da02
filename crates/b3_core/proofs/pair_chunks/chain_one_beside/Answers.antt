use Rattle.std.proofs.Common.{◌≡◌, ℕ, ◌+◌, ◌-◌, ◌*◌, ◌/◌, take, drop, length, sym, ap, ◌∙◌, add-zero, arith}
use Rattle.std.proofs.lemmas.List.{drop-take, length-drop, length-take-le, take-take}
use Rattle.b3_core.specs.Nodes.{chaining}
use Rattle.b3_core.specs.Chunks.{chaining_value_at, chunk_at, chunk_node, last_block_node}
use Rattle.b3_core.proofs.ChunkNodes.{chunk_node-last}
use Rattle.b3_core.proofs.LaneChunks.{after_blocks-chaining_value_at, block-of_chunk, length-chunk_at}
use Rattle.b3_core.proofs.pair_chunks.chain_one_beside.Goals as goal

pub returns-clause-chunk : goal.returns-clause-chunk
unfolding chaining_value_at
returns-clause-chunk c =
    let mode = c.args.mode.now in
    let first : ℕ = c.args.first in
    let bytes = c.args.bytes.now in
    let b : ℕ = c.args.blocks in
    let n : ℕ = 960 - 64 * b in
    let chunk = chunk_at bytes 0 in
    let full : length chunk ≡ 1024 = length-chunk_at bytes 1 0 (omega arith) (omega (arith, c.requires.bytes)) in
    let inner = take n (drop (64 * b) bytes) in
    let long : length inner ≡ n =
    length-take-le n (drop (64 * b) bytes) (omega (arith, length-drop (64 * b) bytes, c.requires.bytes)) in
    let room : 1024 ≡ 64 * b + (1024 - 64 * b) = omega arith in
    let same : take n (drop (64 * b) chunk) ≡ inner =
    ap (λ m. take n (drop (64 * b) (take m bytes))) room
    ∙ ap (take n) (drop-take (64 * b) (1024 - 64 * b) bytes)
    ∙ take-take n (1024 - 64 * b) (drop (64 * b) bytes) (omega arith) in
    let reaches = c.both_words-both.ensures 0 (omega arith)
    ∙ c.two_blocks.ensures.words 0 (omega arith) (c.key_rows.ensures.words 0 (omega arith))
    ∙ after_blocks-chaining_value_at mode (first + 0) chunk b (λ is. omega (arith, is))
    ∙ ap (λ n. chaining_value_at mode n chunk b) (add-zero first) in
    let count : b + length inner / 64 ≡ 15 = omega (arith, long) in
    let own_is = c.chain_blocks-own.ensures.chunk chunk reaches
    (sym same ∙ ap (λ m. take m (drop (64 * b) chunk)) (sym long))
    ∙ ap (chaining_value_at mode first chunk) count in
    c.chaining.ensures
    ∙ ap chaining (c.last_block_node.ensures
    ∙ ap (last_block_node mode first 15 c.chain_blocks-own.result) (block-of_chunk bytes 960 0 15 (omega arith) (omega arith))
    ∙ chunk_node-last mode first chunk 15 15 64 c.chain_blocks-own.result (omega (arith, full)) (omega (arith, full))
    (omega (arith, full)) own_is)
    ∙ ap (λ n. chaining (chunk_node mode n chunk)) (sym (add-zero first))

pub returns-clause-beside : goal.returns-clause-beside
unfolding chaining_value_at
returns-clause-beside c =
    c.both_words-both.ensures 1 (omega arith)
    ∙ c.two_blocks.ensures.words 1 (omega arith) (c.key_rows.ensures.words 1 (omega arith))
    ∙ after_blocks-chaining_value_at c.args.mode.now (c.args.first + 1) (chunk_at c.args.bytes.now 1) c.args.blocks
    (λ is. omega (arith, is))
