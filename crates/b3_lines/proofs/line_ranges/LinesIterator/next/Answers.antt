use Rattle.std.proofs.Common.{◌∙◌, ap, arith, length, refl, sym}
use Rattle.std.proofs.lemmas.List.{take_rest}
use Rattle.b3_lines.proofs.RangesFrom.{ranges_from-at_end, ranges_from-first}
use Rattle.b3_lines.proofs.line_ranges.LinesIterator.next.Goals as goal

pub returns-then-start-self-clause-steps : goal.returns-then-start-self-clause-steps
returns-then-start-self-clause-steps c =
    let none = sym c.self.view_is
    ∙ ranges_from-at_end c.self.inside.text.now c.self.inside.start c.if-start-self.true in
    (none, none)

pub returns-clause-steps : goal.returns-clause-steps
returns-clause-steps c =
    let text = c.self.inside.text.now in
    let start = c.self.inside.start in
    let rest = take_rest text start in
    sym c.self.view_is
    ∙ ranges_from-first text start c.first_piece_length.result _ _ refl refl
    (rw rest at c.first_piece_length.ensures.within) (rw rest at c.first_piece_length.ensures.first)

pub returns-clause-goes : goal.returns-clause-goes
returns-clause-goes c =
    let fewer = ap length (returns-clause-steps c) in
    record { on = λ _. (tt, tt, omega (arith, fewer)); keeps = tt; rests = λ _. tt }
