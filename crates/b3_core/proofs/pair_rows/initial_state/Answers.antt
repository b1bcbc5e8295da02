use Rattle.b3_core.proofs.HalfRows.{initial_state-half}
use Rattle.b3_core.proofs.pair_rows.initial_state.Goals as goal

pub returns-clause-words : goal.returns-clause-words
returns-clause-words c p p_in = initial_state-half p c.args.first c.args.d c.args.h p_in
