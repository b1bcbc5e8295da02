use Rattle.std.proofs.Common.{◌≡◌, ℕ, suc, ◌+◌, ◌-◌, ◌/◌, length, sym, ap, ◌∙◌, arith}
use Rattle.b3_core.specs.Lanes.{lane}
use Rattle.b3_core.proofs.Parts.{halved, part_chaining, parts-chunks, subtrees-joined}
use Rattle.b3_core.proofs.lane_trees.+eight_subtrees.Goals as goal

pub returns-then-level-eq0-clause-lanes : goal.returns-then-level-eq0-clause-lanes
returns-then-level-eq0-clause-lanes t c j lt =
    c.chain_all_lanes.ensures.lanes j lt
    ∙ parts-chunks c.args.mode.now c.args.first c.args.bytes.now j
    ∙ ap (λ l. part_chaining l c.args.mode.now c.args.first c.args.bytes.now j) (sym c.if-level-eq0.true)

pub eight_subtrees-left-requires : goal.eight_subtrees-left-requires
eight_subtrees-left-requires t c =
    let half = halved c.args.level (omega (arith, c.if-level-eq0.false)) in (
      omega (arith, c.decreases, c.if-level-eq0.false),
      (omega (arith, half, c.requires.bytes, c.split_at.ensures.front_len), omega (arith, half, c.requires.first)),
    )

pub eight_subtrees-right-requires : goal.eight_subtrees-right-requires
eight_subtrees-right-requires t c =
    let half = halved c.args.level (omega (arith, c.if-level-eq0.false)) in (
      omega (arith, c.decreases, c.if-level-eq0.false),
      (
        omega (arith, half, c.requires.bytes, c.split_at.ensures.back_len),
        omega
            (arith, half, c.requires.bytes, c.requires.first),
      ),
    )

pub returns-clause-lanes : goal.returns-clause-lanes
returns-clause-lanes t c j lt =
    let level : ℕ = c.args.level - 1 in
    let bytes = c.args.bytes.now in
    let next : ℕ = c.args.first + length bytes / 2 / 1024 in
    let half = halved c.args.level (omega (arith, c.if-level-eq0.false)) in
    let up : suc level ≡ c.args.level = omega (arith, c.if-level-eq0.false) in
    subtrees-joined level c.args.mode.now c.args.first next (length bytes / 2) bytes
    (λ j. lane j c.eight_subtrees-left.result) (λ j. lane j c.eight_subtrees-right.result)
    (λ j. lane j c.parents8.result)
    (omega (arith, half, c.requires.bytes)) (omega (arith, half, c.requires.bytes))
    (omega (arith, half, c.requires.bytes))
    (λ j j_in. c.eight_subtrees-left.ensures.lanes j j_in
    ∙ ap (λ xs. part_chaining level c.args.mode.now c.args.first xs j) c.split_at.ensures.front)
    (λ j j_in. c.eight_subtrees-right.ensures.lanes j j_in
    ∙ ap (λ xs. part_chaining level c.args.mode.now next xs j) c.split_at.ensures.back)
    c.parents8.ensures.front c.parents8.ensures.back j lt
    ∙ ap (λ l. part_chaining l c.args.mode.now c.args.first bytes j) up
