use Rattle.std.proofs.Common.{inl, inr, refl, ap, ◌∙◌, arith}
use Rattle.b3_core.specs.Tree.{chunks, parent_node}
use Rattle.b3_board.specs.Entries.{joined}
use Rattle.b3_board.proofs.Partners.{siblings_fit, under, over}
use Rattle.b3_board.proofs.Steps.{is_joined_well}
use Rattle.b3_board.proofs.merging.join_siblings.Goals as goal

pub join_two-requires-clause-fits : goal.join_two-requires-clause-fits
join_two-requires-clause-fits g c =
    let h = siblings_fit (chunks g.L.InputLedger.input.len) _ _ (omega arith) c.requires.siblings in
    omega (arith, c.requires.few)

pub join_two-requires-else-other-here-clause-fits : goal.join_two-requires-else-other-here-clause-fits
join_two-requires-else-other-here-clause-fits g c =
    let h = siblings_fit (chunks g.L.InputLedger.input.len) _ _ (omega arith) c.requires.siblings in
    omega (arith, c.requires.few)

pub join_two-requires-else-other-here-clause-apart : goal.join_two-requires-else-other-here-clause-apart
join_two-requires-else-other-here-clause-apart g c =
    let n = chunks g.L.InputLedger.input.len in
    let h = over n c.args.entries.now c.args.here c.args.other (omega arith)
    c.requires.sound.in_order c.requires.inside c.requires.other_inside c.requires.siblings c.if-other-here.false in
    h.0

pub returns-then-other-here : goal.returns-then-other-here
returns-then-other-here g c =
    let of = g.L.InputLedger in
    let h = under (chunks of.input.len) c.args.entries.now c.args.here c.args.other (omega arith)
    c.requires.sound.in_order c.requires.inside c.requires.other_inside c.requires.siblings c.if-other-here.true in
    is_joined_well of.input of.mode of.first c.args.entries.now c.args.here
    c.join_two.new.entries c.args.other c.args.here c.requires.other_inside c.requires.inside h.0
    c.requires.other_kept c.requires.kept h.1 c.requires.sound c.requires.apart (inr refl)
    (λ a b a_is b_is. c.join_two.ensures a b a_is b_is ∙ ap (λ m. joined c.args.entries.now c.args.other c.args.here
    (parent_node m a.chaining_value b.chaining_value)) c.mode-mode.ensures)

pub returns-else-other-here : goal.returns-else-other-here
returns-else-other-here g c =
    let of = g.L.InputLedger in
    let h = over (chunks of.input.len) c.args.entries.now c.args.here c.args.other (omega arith)
    c.requires.sound.in_order c.requires.inside c.requires.other_inside c.requires.siblings c.if-other-here.false in
    is_joined_well of.input of.mode of.first c.args.entries.now c.args.here
    c.join_two-else-other-here.new.entries c.args.here c.args.other c.requires.inside c.requires.other_inside h.0
    c.requires.kept c.requires.other_kept h.1 c.requires.sound c.requires.apart (inl refl)
    (λ a b a_is b_is. c.join_two-else-other-here.ensures a b a_is b_is
    ∙ ap (λ m. joined c.args.entries.now c.args.here c.args.other (parent_node m a.chaining_value b.chaining_value))
    c.mode-mode.ensures)
