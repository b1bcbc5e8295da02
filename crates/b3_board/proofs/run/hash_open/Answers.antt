use Rattle.std.proofs.Common.{◌∷◌, ◌∙◌, ◌<◌, List, ap, arith, length, length-append}
use Rattle.b3_core.specs.declared.spans.Span.{Span}
use Rattle.b3_board.specs.BoardStates.{LosesSpan}
use Rattle.b3_board.specs.Shares.{ShareState}
use Rattle.b3_board.proofs.run.hash_open.Goals as goal

-- one open span less
loses_one : (spans rest : List Span) (s : Span) → LosesSpan spans s rest → length rest < length spans
loses_one spans rest s (before, after, was, now) =
    omega (arith, ap length was, ap length now, length-append before (s ∷ after), length-append before after)

pub returns-in_default-deposit_own-clause-grown : goal.returns-in_default-deposit_own-clause-grown
returns-in_default-deposit_own-clause-grown g c =
    omega (
      arith,
      ap (λ (s : ShareState). s.chunks) c.in_default-deposit_own.ensures.share_unchanged,
      c.spans.invariant.grown,
    )

pub returns-in_default-deposit_own-clause-parts : goal.returns-in_default-deposit_own-clause-parts
returns-in_default-deposit_own-clause-parts g c =
    ap (λ (s : ShareState). s.parts) c.in_default-deposit_own.ensures.share_unchanged ∙ c.spans.invariant.parts

pub returns-in_default-deposit_own-clause-sure : goal.returns-in_default-deposit_own-clause-sure
returns-in_default-deposit_own-clause-sure g c = λ sure.
    let span = rw c.in-Some-Ok.field-0-is at c.in-Some-Ok.ensures.span in
    c.in_default-deposit_own.ensures.ok.1 (rw span c.in-Some.ensures.open)

pub spans-smaller : goal.spans-smaller
spans-smaller g c = loses_one _ _ _ c.in-Ok.ensures.step.opens
