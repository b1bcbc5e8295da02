use Rattle.std.proofs.Common.{subst}
use Rattle.b3_board.specs.BoardStates.{IsAscending, BoardState}
use Rattle.b3_board.proofs.Deposits.{open_ascending}
use Rattle.b3_board.proofs.board.Board.open_span.Goals as goal

pub returns-clause-ascending : goal.returns-clause-ascending
returns-clause-ascending g c =
    subst (λ (p : BoardState). IsAscending p.open_spans) c.self.view_is
    (open_ascending c.self.inside.entries.items c.self.invariant.lawful.sound.in_order)
