use Rattle.std.proofs.Common.{rules, sym, ap, ◌∙◌}
use Rattle.b3_board.specs.WorkerStates.{seat_parts, share_parts}
use Rattle.b3_board.proofs.WorkerStates.{sum_by-same}
use Rattle.b3_board.proofs.run.run_each.Goals as goal

pub returns-clause-seat_parts : goal.returns-clause-seat_parts
returns-clause-seat_parts g c =
    sum_by-same seat_parts c.for_each_beside.new.s c.args.states.now (search rules) (λ i d lt.
    let ran = (c.for_each_beside.ensures.each i d lt).1 in
    ap seat_parts (sym ran.left) ∙ ran.call.worked.seat_parts ∙ ap seat_parts ran.argument_is)

pub returns-clause-share_parts : goal.returns-clause-share_parts
returns-clause-share_parts g c =
    sum_by-same share_parts c.for_each_beside.new.s c.args.states.now (search rules) (λ i d lt.
    let ran = (c.for_each_beside.ensures.each i d lt).1 in
    ap share_parts (sym ran.left) ∙ ran.call.worked.share_parts ∙ ap share_parts ran.argument_is)
