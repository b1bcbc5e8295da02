use Rattle.std.proofs.Common.{◌≡◌, ◌+◌, ◌*◌, ◌/◌, ◌%◌, ◌++◌, length, take, drop, ap, sym, ◌∙◌, arith}
use Rattle.std.proofs.Math.Seq.{take-append_seam}
use Rattle.b3_core.specs.Output.{output_bytes}
use Rattle.b3_core.proofs.OutputBytes.{length-output_block, length-output_bytes, output_block-part, output_bytes-part}
use Rattle.b3_hash.proofs.output.read_some.Goals as goal

pub returns-then-out-skip-clause-bytes : goal.returns-then-out-skip-clause-bytes
returns-then-out-skip-clause-bytes c =
    let node = c.args.node.now in
    let index = c.args.place / 64 in
    let skip = c.args.place % 64 in
    let count = c.copy_from.result in
    let from : 64 * index + skip ≡ c.args.place = omega arith in
    let block_len = ap length c.block.ensures ∙ length-output_block node index in
    c.copy_from.ensures.bytes
    ∙ ap (λ block. take count (drop skip block)) c.block.ensures
    ∙ output_block-part node index skip count (omega (arith, c.copy_from.ensures.count, block_len))
    ∙ ap (λ place. output_bytes node place count) from

pub returns-then-out-ge-EIGHT_BLOCKS-clause-bytes : goal.returns-then-out-ge-EIGHT_BLOCKS-clause-bytes
returns-then-out-ge-EIGHT_BLOCKS-clause-bytes c =
    let node = c.args.node.now in
    let blocks = c.blocks8.new.out in
    let at : 64 * (c.args.place / 64) ≡ c.args.place = omega arith in
    let len : length blocks ≡ 512 =
    ap length c.blocks8.ensures ∙ length-output_bytes node (64 * (c.args.place / 64)) 512 in
    ap (λ count. take count (blocks ++ drop 512 c.args.out.now)) (sym len)
    ∙ take-append_seam blocks (drop 512 c.args.out.now)
    ∙ c.blocks8.ensures
    ∙ ap (λ place. output_bytes node place 512) at

pub returns-clause-bytes : goal.returns-clause-bytes
returns-clause-bytes c =
    let node = c.args.node.now in
    let index = c.args.place / 64 in
    let skip = c.args.place % 64 in
    let count = c.copy_from-2.result in
    let from : 64 * index + skip ≡ c.args.place = omega arith in
    let blocks_len = ap length c.blocks8-2.ensures ∙ length-output_bytes node (64 * index) 512 in
    c.copy_from-2.ensures.bytes
    ∙ ap (λ blocks. take count (drop skip blocks)) c.blocks8-2.ensures
    ∙ output_bytes-part node (64 * index) 512 skip count (omega (arith, c.copy_from-2.ensures.count, blocks_len))
    ∙ ap (λ place. output_bytes node place count) from
