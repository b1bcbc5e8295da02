use Rattle.std.proofs.Common.{ℕ, ◌+◌, ◌<◌, length, sym, ap, ◌∙◌, arith}
use Rattle.b3_core.specs.Nodes.{chaining}
use Rattle.b3_core.specs.Tree.{IsLeft, chunks, parent_node, top}
use Rattle.b3_core.proofs.FewChunks.{each-back, each-front, each-one}
use Rattle.b3_core.proofs.Subtrees.{top-parent}
use Rattle.b3_core.proofs.lane_trees.+chaining_from_chunks.Goals as goal

pub returns-then-chainings-le1 : goal.returns-then-chainings-le1
returns-then-chainings-le1 t c =
    each-one c.args.mode.now c.args.first c.args.bytes.now c.args.chainings.now c.requires.each
    (omega (arith, c.requires.count)) (omega (arith, c.requires.count, c.if-chainings-le1.true))

pub chaining_from_chunks-left_chaining-requires : goal.chaining_from_chunks-left_chaining-requires
chaining_from_chunks-left_chaining-requires t c =
    let each = each-front c.args.mode.now c.args.first c.left-count.result c.args.bytes.now c.args.chainings.now
    c.requires.each in
    let smaller : length c.split_at-2.result.0.now < t =
    omega (arith, c.decreases, c.split_at-2.ensures.front_len, c.left-count.ensures) in (
      smaller,
      (
        omega (arith, c.split_at-2.ensures.front_len, c.split_at.ensures.front_len, c.left-count.ensures),
        (
          omega (arith, c.requires.first, c.split_at-2.ensures.front_len, c.left-count.ensures),
          rw (c.split_at-2.ensures.front, c.split_at.ensures.front) each,
        ),
      ),
    )

pub chaining_from_chunks-right_chaining-requires : goal.chaining_from_chunks-right_chaining-requires
chaining_from_chunks-right_chaining-requires t c =
    let each = each-back c.args.mode.now c.args.first c.left-count.result c.args.bytes.now c.args.chainings.now
    c.requires.each in
    let parts = c.split_at.ensures.back_len in
    let smaller : length c.split_at-2.result.1.now < t =
    omega (arith, c.decreases, c.split_at-2.ensures.back_len, c.left-count.ensures) in (
      smaller,
      (
        omega (arith, c.requires.count, c.split_at-2.ensures.back_len, parts, c.left-count.ensures),
        (
          omega (arith, c.requires.first, c.split_at-2.ensures.back_len, c.left-count.ensures),
          rw (c.split_at-2.ensures.back, c.split_at.ensures.back) each,
        ),
      ),
    )

pub returns : goal.returns
returns t c =
    let mode = c.args.mode.now in
    let first : ℕ = c.args.first in
    let bytes = c.args.bytes.now in
    let l : ℕ = c.left-count.result in
    let is_left : IsLeft (chunks (length bytes)) l = rw (← c.requires.count) c.left-count.ensures in
    let left_is = c.chaining_from_chunks-left_chaining.ensures
    ∙ ap (λ xs. chaining (top mode first xs)) c.split_at.ensures.front in
    let right_is = c.chaining_from_chunks-right_chaining.ensures
    ∙ ap (λ xs. chaining (top mode (first + l) xs)) c.split_at.ensures.back in
    let more : 1024 < length bytes = omega (arith, c.requires.count, c.if-chainings-le1.false) in
    c.chaining.ensures
    ∙ ap chaining (c.parent_node.ensures ∙ (λ i. parent_node mode (left_is i) (right_is i))
    ∙ sym (top-parent mode first l bytes more is_left))
