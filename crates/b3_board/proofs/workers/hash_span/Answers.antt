use Rattle.std.proofs.Common.{List, ap, arith, get_or}
use Rattle.std.proofs.lemmas.List.{get_or-map}
use Rattle.b3_core.specs.declared.spans.Span.{Span}
use Rattle.b3_board.proofs.workers.hash_span.Goals as goal

pub returns-clause-grown : goal.returns-clause-grown
returns-clause-grown g c =
    let none : Span = record { first = 0; count = 0 } in
    omega (
      arith,
      c.deposit_or_miss.ensures.grown,
      ap (λ (s : Span). s.count) c.in-Some.ensures.span,
      ap (λ (spans : List Span). (get_or spans c.args.i none).count) c.cutting.ensures.spans,
      get_or-map (λ (s : Span). s.count) (g.C.SpanHasher.spans c.args.hasher.now) c.args.i none 0 c.requires.index,
    )
