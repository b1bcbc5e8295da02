use Rattle.std.proofs.Common.{◌≡◌, ◌-◌, arith, subst, rules}
use Rattle.b3_core.specs.declared.spans.Span.{Span}
use Rattle.b3_board.specs.Entries.{open_spans}
use Rattle.b3_board.specs.BoardStates.{BoardState}
use Rattle.b3_board.specs.Spans.{chunks_in}
use Rattle.b3_board.proofs.LawfulStates.{sum_open}
use Rattle.b3_board.proofs.board.Board.waiting.Goals as goal

pub returns-clause-open : goal.returns-clause-open
returns-clause-open g c =
    let board = c.self.inside in
    let kept = c.self.invariant in
    let here : c.size.result - board.account.chunks ≡ chunks_in (open_spans board.entries.items) =
    omega (
      arith,
      c.size.ensures.count,
      sum_open (λ (s : Span). s.count) board.entries.items,
      kept.lawful.sound.all,
      kept.booked,
    ) in
    subst (λ (p : BoardState). c.size.result - board.account.chunks ≡ chunks_in p.open_spans) c.self.view_is here

pub returns-clause-all : goal.returns-clause-all
returns-clause-all g c = search rules
