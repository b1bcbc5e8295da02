use Rattle.std.proofs.Common.{◌∙◌, ap, arith, refl}
use Rattle.b3_board.specs.BoardStates.{BoardState}
use Rattle.b3_board.specs.Shares.{ShareState}
use Rattle.b3_board.proofs.run.take_root.Goals as goal

pub overflow_sub-result : goal.overflow_sub-result
overflow_sub-result g c =
    omega (
      arith,
      c.chunks-before.ensures,
      c.chunks.ensures,
      ap (λ (s : ShareState). s.chunks) c.audit.ensures.share,
      c.hash_open.ensures.grown,
    )

pub returns-in_default-clause-sure : goal.returns-in_default-clause-sure
returns-in_default-clause-sure g c = λ sure.
    c.in_default.ensures.there.1 (ap (λ (b : BoardState). b.open_spans) c.audit.ensures.board
    ∙ c.if-not-hash_open.ensures.none refl)

pub returns-clause-root : goal.returns-clause-root
returns-clause-root g c =
    let own = c.in-Some.ensures.own in
    rw (own.input_is, own.mode_is, own.first_is) at c.in-Some.ensures.root

pub returns-then-not-hash_open-clause-sure : goal.returns-then-not-hash_open-clause-sure
returns-then-not-hash_open-clause-sure g c = c.if-not-hash_open.ensures.sure
