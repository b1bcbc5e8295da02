use Rattle.b3_core.proofs.HalfRows.{half_chaining-twice}
use Rattle.b3_core.proofs.pair_chunks.key_rows.Goals as goal

pub returns-clause-words : goal.returns-clause-words
returns-clause-words c p p_in = half_chaining-twice c.args.k.now p c.told-k p_in
