use Rattle.std.proofs.Common.{ℕ, ◌+◌, List, length, sym, ap, ◌∙◌, arith}
use Rattle.std.proofs.lemmas.List.{length-take}
use Rattle.b3_core.specs.Nodes.{chaining}
use Rattle.b3_core.specs.Tree.{IsLeft, chunks, parent_node, top}
use Rattle.b3_core.proofs.FewChunks.{each-back, each-front}
use Rattle.b3_core.proofs.Subtrees.{top-parent}
use Rattle.b3_core.proofs.lane_trees.top_of_few_chunks.Goals as goal

pub chaining_from_chunks-left_chaining-requires-clause-each :
    goal.chaining_from_chunks-left_chaining-requires-clause-each
chaining_from_chunks-left_chaining-requires-clause-each c =
    let all = rw (← c.chunks-total.ensures) at c.chainings_of_few_chunks-chainings.ensures in
    rw (c.split_at-2.ensures.front, c.split_at.ensures.front)
    (each-front c.args.mode.now c.args.first c.left-count.result c.args.bytes.now _ all)

pub chaining_from_chunks-right_chaining-requires-clause-each :
    goal.chaining_from_chunks-right_chaining-requires-clause-each
chaining_from_chunks-right_chaining-requires-clause-each c =
    let all = rw (← c.chunks-total.ensures) at c.chainings_of_few_chunks-chainings.ensures in
    rw (c.split_at-2.ensures.back, c.split_at.ensures.back)
    (each-back c.args.mode.now c.args.first c.left-count.result c.args.bytes.now _ all)

pub returns : goal.returns
returns c =
    let mode = c.args.mode.now in
    let first : ℕ = c.args.first in
    let bytes = c.args.bytes.now in
    let l : ℕ = c.left-count.result in
    let is_left : IsLeft (chunks (length bytes)) l = rw (← c.chunks-total.ensures) c.left-count.ensures in
    let left_is = c.chaining_from_chunks-left_chaining.ensures
    ∙ ap (λ xs. chaining (top mode first xs)) c.split_at.ensures.front in
    let right_is = c.chaining_from_chunks-right_chaining.ensures
    ∙ ap (λ xs. chaining (top mode (first + l) xs)) c.split_at.ensures.back in
    c.parent_node.ensures ∙ (λ i. parent_node mode (left_is i) (right_is i))
    ∙ sym (top-parent mode first l bytes c.requires.some is_left)

pub slice_bounds-chainings-end : goal.slice_bounds-chainings-end
slice_bounds-chainings-end c = omega arith

pub slice_bounds-split_at-end : goal.slice_bounds-split_at-end
slice_bounds-split_at-end c = omega (arith, length-take {A = List ℕ})

pub chaining_from_chunks-right_chaining-requires-clause-count :
    goal.chaining_from_chunks-right_chaining-requires-clause-count
chaining_from_chunks-right_chaining-requires-clause-count c = omega (arith, length-take {A = List ℕ})

pub chaining_from_chunks-right_chaining-requires-clause-first :
    goal.chaining_from_chunks-right_chaining-requires-clause-first
chaining_from_chunks-right_chaining-requires-clause-first c = omega (arith, length-take {A = List ℕ})
