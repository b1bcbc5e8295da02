use Rattle.std.proofs.Common.{◌∙◌, ◌<◌, length, sym, arith}
use Rattle.b3_core.specs.Tree.{IsLeft, chunk, chunks, parent}
use Rattle.b3_core.proofs.Subtrees.{IsTop-only, top-chunk}
use Rattle.b3_core_tests.proofs.tests.lanes.+top_plain.Goals as goal

pub returns-then-bytes-le-CHUNK_LEN-clause-value : goal.returns-then-bytes-le-CHUNK_LEN-clause-value
returns-then-bytes-le-CHUNK_LEN-clause-value t c =
    c.chunk_node.ensures ∙ sym (top-chunk c.args.mode.now c.args.first c.args.bytes.now c.if-bytes-le-CHUNK_LEN.true)

pub returns-then-bytes-le-CHUNK_LEN-clause-tree : goal.returns-then-bytes-le-CHUNK_LEN-clause-tree
returns-then-bytes-le-CHUNK_LEN-clause-tree t c =
    rw c.chunk_node.ensures (chunk c.if-bytes-le-CHUNK_LEN.true)

pub returns-then-bytes-le-CHUNK_LEN-clause-only : goal.returns-then-bytes-le-CHUNK_LEN-clause-only
returns-then-bytes-le-CHUNK_LEN-clause-only t c = λ node is_top.
    IsTop-only c.args.mode.now c.args.first c.args.bytes.now node is_top
    ∙ sym (returns-then-bytes-le-CHUNK_LEN-clause-value t c)

pub returns-clause-tree : goal.returns-clause-tree
returns-clause-tree t c =
    let bytes = c.args.bytes.now in
    let long : 1024 < length bytes = omega arith in
    let is_left : IsLeft (chunks (length bytes)) c.left-count.result = rw (← c.chunks.ensures) c.left-count.ensures in
    let left_top = rw c.split_at.ensures.front at c.top_plain-left_node.ensures.tree in
    let right_top = rw c.split_at.ensures.back at c.top_plain-right_node.ensures.tree in
    rw (c.parent_node.ensures, c.chaining.ensures, c.chaining-2.ensures)
    (parent {l = c.left-count.result} {input = bytes} long is_left left_top right_top)

pub returns-clause-value : goal.returns-clause-value
returns-clause-value t c =
    IsTop-only c.args.mode.now c.args.first c.args.bytes.now c.parent_node.result (returns-clause-tree t c)

pub returns-clause-only : goal.returns-clause-only
returns-clause-only t c = λ node is_top.
    IsTop-only c.args.mode.now c.args.first c.args.bytes.now node is_top ∙ sym (returns-clause-value t c)
