use Rattle.std.proofs.Common.{rules}
use Rattle.b3_board.proofs.parallel.hash_parallel_on.Goals as goal

pub returns-clause-root : goal.returns-clause-root
returns-clause-root g c = search rules
