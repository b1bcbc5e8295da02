use Rattle.std.proofs.Common.{◌≡◌, ◌+◌, ◌/◌, length, take, subst, arith}
use Rattle.b3_core.specs.Tree.{chunks}
use Rattle.b3_core.specs.Lanes.{AreChunkChainings}
use Rattle.b3_core.proofs.FewChunks.{each-full}
use Rattle.b3_core.proofs.lane_trees.chainings_of_few_chunks.Goals as goal

pub returns-then-full-bytes : goal.returns-then-full-bytes
returns-then-full-bytes c =
    let bytes = c.args.bytes.now in
    let count : length bytes / 1024 + 1 ≡ chunks (length bytes) = omega (arith, c.if-full-bytes.true) in
    subst (λ n. AreChunkChainings c.args.mode.now c.args.first bytes (take n c.chainings_with_short.result)) count
    c.chainings_with_short.ensures

pub returns : goal.returns
returns c =
    let bytes = c.args.bytes.now in
    each-full c.args.mode.now c.args.first (length bytes / 1024) (chunks (length bytes)) bytes c.chain_chunks.result
    (λ j j_in. c.chain_chunks.ensures j (omega arith)) (omega (arith, c.if-full-bytes.false, c.requires.some))
