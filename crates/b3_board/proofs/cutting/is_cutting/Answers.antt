use Rattle.std.proofs.Common.{rules, arith}
use Rattle.b3_core.proofs.Grid.{InGrid-from_IsSubtree}
use Rattle.b3_core.specs.Subtrees.{IsSubtree}
use Rattle.std.specs.Prelude.{slice_index_or}
use Rattle.b3_board.proofs.Cuttings.{no_span, row_more, row_next}
use Rattle.b3_board.proofs.cutting.is_cutting.Goals as goal
use Rattle.b3_board.proofs.cutting.is_cutting.Goals.{then-span-eq0-via-then-span-eq0, then-span-eq0-via-else-span-eq0+then-span-next, then-span-eq0-via-else-span-eq0+else-span-next+then-not-is_subtree}

pub returns-then-span-eq0 : goal.returns-then-span-eq0
returns-then-span-eq0 c = (
  λ h. absurd (search (rules, h)),
  λ cutting.
      let next = row_next c.args.n c.loop-span.next c.loop-span.span-index c.args.spans.now c.requires.some cutting
      c.loop-span.invariant c.loop-span-test.true in
      elim c.then-span-eq0.branch [
        | then-span-eq0-via-then-span-eq0 w ↦ absurd (omega (arith, next.1, w.if-span-eq0.true))
        | then-span-eq0-via-else-span-eq0+then-span-next w ↦ absurd (omega (arith, next.0, w.if-span-next.true))
        | then-span-eq0-via-else-span-eq0+else-span-next+then-not-is_subtree w ↦ absurd (search (
          rules,
          w.is_subtree.ensures.1 next.2,
          w.if-not-is_subtree.true,
        ))
      ],
)

pub overflow_add-next : goal.overflow_add-next
overflow_add-next c =
    let s = slice_index_or c.args.spans.now c.loop-span.span-index no_span in
    let up : IsSubtree c.args.n s.first s.count = c.is_subtree.ensures.0 (search rules) in
    let at = InGrid-from_IsSubtree c.args.n c.requires.some up in
    let ends = at.ends in
    record { fits = omega (arith, c.requires.few, c.if-span-next.false) }

pub loop-span-preserved : goal.loop-span-preserved
loop-span-preserved c =
    row_more c.args.n c.loop-span.next c.loop-span.span-index c.args.spans.now c.loop-span.invariant
    c.loop-span-test.true (omega (arith, c.if-span-next.false)) (omega (arith, c.if-span-eq0.false))
    (c.is_subtree.ensures.0 (search rules))
