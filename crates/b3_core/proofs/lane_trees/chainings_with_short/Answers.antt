use Rattle.std.proofs.Common.{◌≡◌, ℕ, ◌+◌, ◌-◌, ◌*◌, ◌/◌, ◌≤◌, [], length, take, drop, get_or, refl, ap, ◌∙◌, arith}
use Rattle.std.proofs.lemmas.List.{length-drop, take_all}
use Rattle.b3_core.specs.Nodes.{chaining}
use Rattle.b3_core.specs.Chunks.{chaining_value_at, last_block_node}
use Rattle.b3_core.proofs.ChunkNodes.{chunk_node-last}
use Rattle.b3_core.proofs.FewChunks.{each-last}
use Rattle.b3_core.proofs.lane_trees.chainings_with_short.Goals as goal

pub returns : goal.returns
returns c =
    let mode = c.args.mode.now in
    let bytes = c.args.bytes.now in
    let full : ℕ = c.args.full in
    let number : ℕ = c.args.first + full in
    let rest = drop (1024 * full) bytes in
    let rest_len : length rest ≡ length bytes - 1024 * full = length-drop (1024 * full) bytes in
    let short : length rest ≤ 1024 = omega (arith, rest_len, c.requires.short) in
    let b : ℕ = (length c.split_at.result.1.now - 1) / 64 in
    let same : length c.split_at.result.1.now ≡ length rest = ap length c.split_at.ensures.back in
    let h = get_or c.chain_chunks_beside-chainings.result full [] in
    let h_is = c.chain_chunks_beside-chainings.ensures.beside
    ∙ ap (λ xs. chaining_value_at mode number xs b) (take_all 1024 rest short) in
    let block = ap (λ xs. take (length c.split_at.result.1.now - 64 * b) (drop (64 * b) xs)) c.split_at.ensures.back in
    let last_is = c.chaining.ensures
    ∙ ap chaining (c.last_block_node.ensures
    ∙ ap (last_block_node mode number b h) block
    ∙ chunk_node-last mode number rest b b (length c.split_at.result.1.now - 64 * b) h (omega (arith, same))
    (omega (arith, same)) (omega (arith, same)) h_is) in
    each-last mode c.args.first full (full + 1) bytes c.chain_chunks_beside-chainings.result c.chaining.result
    (omega (arith, c.requires.few)) c.chain_chunks_beside-chainings.ensures.chunks last_is c.requires.short refl
