use Rattle.std.proofs.Common.{rules}
use Rattle.b3_core.proofs.compression.initial_state.Goals as goal

pub returns-clause-words : goal.returns-clause-words
returns-clause-words c = search rules
