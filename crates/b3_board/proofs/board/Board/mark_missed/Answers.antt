use Rattle.std.proofs.Common.{refl}
use Rattle.b3_board.proofs.LawfulStates.{IsLawful-seen}
use Rattle.b3_board.proofs.board.Board.mark_missed.Goals as goal

pub returns-clause-lawful : goal.returns-clause-lawful
returns-clause-lawful g c = IsLawful-seen c.self.invariant refl
