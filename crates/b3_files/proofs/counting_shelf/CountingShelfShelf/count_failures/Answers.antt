use Rattle.std.proofs.Common.{arith}
use Rattle.b3_files.proofs.counting_shelf.CountingShelfShelf.count_failures.Goals as goal

pub returns-clause-count : goal.returns-clause-count
returns-clause-count g c = omega arith
