use Rattle.b3_core.specs.Pairs.{half_chaining}
use Rattle.b3_core.proofs.HalfRows.{half_chaining-folded, wide-folded}
use Rattle.b3_core.proofs.pair_rows.two_pair_chainings.Goals as goal

pub returns-clause-wide : goal.returns-clause-wide
returns-clause-wide c =
    let rows = c.rounds_by_turns.ensures.rows in
    (wide-folded c.rounds_by_turns.result.0 rows.0, wide-folded c.rounds_by_turns.result.1 rows.1)

pub returns-clause-front : goal.returns-clause-front
returns-clause-front c p p_in =
    half_chaining-folded c.rounds_by_turns.result.0 p _ c.args.d (half_chaining p c.args.front) _ _
    c.rounds_by_turns.ensures.rows.0 p_in (c.rounds_by_turns.ensures.first p p_in) (c.initial_state-v.ensures.words p p_in)

pub returns-clause-back : goal.returns-clause-back
returns-clause-back c p p_in =
    half_chaining-folded c.rounds_by_turns.result.1 p _ c.args.d (half_chaining p c.args.back) _ _
    c.rounds_by_turns.ensures.rows.1 p_in (c.rounds_by_turns.ensures.second p p_in) (c.initial_state-w.ensures.words p p_in)
