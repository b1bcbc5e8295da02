use Rattle.b3_io.proofs.ReadLemmas.{agrees_lacking}
use Rattle.b3_io.proofs.lists.ListReader.read.Goals as goal

pub returns-in-Err-clause-answer : goal.returns-in-Err-clause-answer
returns-in-Err-clause-answer g c = agrees_lacking _ _ _ _ _ c.in-Err.ensures.why
