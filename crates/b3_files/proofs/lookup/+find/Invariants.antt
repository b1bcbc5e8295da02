use Rattle.std.proofs.Common.{length}
use Rattle.b3_files.proofs.lookup.+find.Given as goal

abbrev pub decreases-find : goal.decreases-find
decreases-find l = length l.files.now
