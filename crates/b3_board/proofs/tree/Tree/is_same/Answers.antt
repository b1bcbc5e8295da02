use Rattle.std.proofs.Common.{rules}
use Rattle.b3_board.proofs.tree.Tree.is_same.Goals as goal

pub returns-then-eq : goal.returns-then-eq
returns-then-eq c = search rules
