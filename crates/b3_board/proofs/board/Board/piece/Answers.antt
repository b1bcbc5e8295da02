use Rattle.std.proofs.Common.{◌∙◌, ap, subst}
use Rattle.std.specs.List.{slice_get}
use Rattle.b3_board.specs.BoardStates.{IsAscending, BoardState, piece_spans}
use Rattle.b3_board.proofs.Deposits.{pieces_ascending}
use Rattle.b3_board.proofs.Greatest.{pieces_are_greatest}
use Rattle.b3_board.proofs.LawfulStates.{IsLawful-seen}
use Rattle.b3_board.proofs.board.Board.piece.Goals as goal

pub returns-clause-ascending : goal.returns-clause-ascending
returns-clause-ascending g c =
    subst (λ (p : BoardState). IsAscending (piece_spans p)) c.self.view_is
    (pieces_ascending c.self.inside.entries.items c.self.invariant.lawful.sound.in_order)

pub returns-clause-greatest : goal.returns-clause-greatest
returns-clause-greatest g c = pieces_are_greatest c.args.self.now (IsLawful-seen c.self.invariant c.self.view_is)

pub returns-clause-span : goal.returns-clause-span
returns-clause-span g c =
    c.nth_piece.ensures
    ∙ rw c.as_slice.ensures.value (ap (λ (p : BoardState). slice_get (piece_spans p) c.args.i) c.self.view_is)
