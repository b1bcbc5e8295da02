use Rattle.std.proofs.Common.{length}
use Rattle.b3_crew.proofs.crew.Shared.first.Given as goal

abbrev pub decreases-batches : goal.decreases-batches
decreases-batches g l = length l.self.batches.items
