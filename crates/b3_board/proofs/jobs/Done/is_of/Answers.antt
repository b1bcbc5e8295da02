use Rattle.std.proofs.Common.{rules}
use Rattle.b3_board.proofs.jobs.Done.is_of.Goals as goal

pub returns-then-eq : goal.returns-then-eq
returns-then-eq c = search rules
