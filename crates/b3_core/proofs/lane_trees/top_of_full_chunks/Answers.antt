use Rattle.std.proofs.Common.{ℕ, ◌+◌, ◌*◌, List, ◌∙◌, arith}
use Rattle.b3_core.specs.Nodes.{chaining}
use Rattle.b3_core.specs.Tree.{parent_node}
use Rattle.b3_core.specs.Lanes.{lane}
use Rattle.b3_core.proofs.Parts.{parts-top}
use Rattle.b3_core.proofs.lane_trees.top_of_full_chunks.Goals as goal

pub returns : goal.returns
returns c =
    let mode = c.args.mode.now in
    let e : ℕ → List ℕ = λ j. lane j c.eight_subtrees-eight.result in
    let f : ℕ → List ℕ = λ j. chaining (parent_node mode (e (2 * j)) (e (2 * j + 1))) in
    let four0 = c.parents8-four.ensures.front 0 (omega arith) in
    let four1 = c.parents8-four.ensures.front 1 (omega arith) in
    let four2 = c.parents8-four.ensures.front 2 (omega arith) in
    let four3 = c.parents8-four.ensures.front 3 (omega arith) in
    let two0 = c.lane_words.ensures ∙ c.parents8-two.ensures.front 0 (omega arith)
    ∙ (λ i. chaining (parent_node mode (four0 i) (four1 i))) in
    let two1 = c.lane_words-2.ensures ∙ c.parents8-two.ensures.front 1 (omega arith)
    ∙ (λ i. chaining (parent_node mode (four2 i) (four3 i))) in
    c.parent_node.ensures ∙ (λ i. parent_node mode (two0 i) (two1 i))
    ∙ parts-top c.args.level mode c.args.first c.args.bytes.now e c.requires.bytes c.eight_subtrees-eight.ensures.lanes
