use Rattle.b3_core.specs.Pairs.{half_chaining}
use Rattle.b3_core.proofs.HalfRows.{half_chaining-folded, wide-folded}
use Rattle.b3_core.proofs.pair_rows.pair_chainings.Goals as goal

pub returns-clause-wide : goal.returns-clause-wide
returns-clause-wide c = wide-folded c.rounds.result c.rounds.ensures.rows

pub returns-clause-words : goal.returns-clause-words
returns-clause-words c p p_in =
    half_chaining-folded c.rounds.result p _ c.args.d (half_chaining p c.args.h) _ _ c.rounds.ensures.rows p_in
    (c.rounds.ensures.words p p_in) (c.initial_state-v.ensures.words p p_in)
