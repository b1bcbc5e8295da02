use Rattle.std.proofs.Common.{arith}
use Rattle.std.proofs.lemmas.List.Sums.{get_or-le-sum_by}
use Rattle.b3_core.specs.declared.spans.Span.{Span}
use Rattle.b3_board.proofs.board.Board+InMemory+L+L.new.Goals as goal

pub open-requires-clause-few : goal.open-requires-clause-few
open-requires-clause-few g c =
    rw c.spans.ensures.spans (λ k d lt.
    omega (arith, get_or-le-sum_by (λ (s : Span). s.count) c.args.plan.now.spans k d lt, c.spans.ensures.small))

pub returns-clause-lawful : goal.returns-clause-lawful
returns-clause-lawful g c = c.in_ok-made.ensures.lawful
