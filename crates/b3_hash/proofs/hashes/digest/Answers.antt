use Rattle.std.proofs.Common.{◌≡◌, length, take, sym, ap, ◌∙◌, arith}
use Rattle.std.proofs.lemmas.List.{length-take-le}
use Rattle.b3_core.specs.Nodes.{output_block}
use Rattle.b3_core.specs.Tree.{top}
use Rattle.b3_core.proofs.OutputBytes.{length-output_block, output_block-part}
use Rattle.b3_hash.proofs.hashes.digest.Goals as goal

pub slice_bounds-copy_from_slice-end-2 : goal.slice_bounds-copy_from_slice-end-2
slice_bounds-copy_from_slice-end-2 c =
    let len : length c.block-block.result ≡ 64 = ap length c.block-block.ensures ∙ length-output_block _ 0 in
    omega (arith, len, length-take-le 32 c.block-block.result (omega (arith, len)))

pub copy_from_slice-requires : goal.copy_from_slice-requires
copy_from_slice-requires c =
    let len : length c.block-block.result ≡ 64 = ap length c.block-block.ensures ∙ length-output_block _ 0 in
    sym (length-take-le 32 c.block-block.result (omega (arith, len)))

pub returns : goal.returns
returns c =
    let root = top c.args.mode.now 0 c.args.input.now in
    c.copy_from_slice.ensures.after
    ∙ ap (take 32) (c.block-block.ensures ∙ ap (λ node. output_block node 0) c.top.ensures.value)
    ∙ output_block-part root 0 0 32 (omega arith)
