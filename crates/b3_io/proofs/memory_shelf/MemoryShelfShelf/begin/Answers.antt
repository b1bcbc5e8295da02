use Rattle.b3_io.proofs.Stored.{content_among-found}
use Rattle.b3_io.proofs.memory_shelf.MemoryShelfShelf.begin.Goals as goal

pub returns-in-Some-clause-content : goal.returns-in-Some-clause-content
returns-in-Some-clause-content c = content_among-found _ _ _ _ c.in-Some.is c.index_of-self.ensures.found
