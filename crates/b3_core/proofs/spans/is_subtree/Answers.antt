use Rattle.std.proofs.Common.{rules, inl, inr, arith}
use Rattle.std.proofs.lemmas.Bool.{eq-eqb, eqb-true}
use Rattle.b3_core.proofs.Grid.{InGrid-from_IsSubtree, IsSubtree-from_tests, tests-from_IsSubtree}
use Rattle.b3_core.proofs.spans.is_subtree.Goals as goal
use Rattle.b3_core.proofs.spans.is_subtree.Goals.{then-span-eq0-via-then-span-eq0}
use Rattle.b3_core.proofs.spans.is_subtree.Goals.{then-span-eq0-via-else-span-eq0+then-span-n}
use Rattle.b3_core.proofs.spans.is_subtree.Goals.{then-span-eq0-via-else-span-eq0+else-span-n+then-span-n-2}

pub returns-then-span-eq0 : goal.returns-then-span-eq0
returns-then-span-eq0 c = (
  λ h. absurd (search (rules, h)),
  λ h.
      let at = InGrid-from_IsSubtree c.args.n c.requires.some h in
      let some = at.some in
      let ends = at.ends in
      elim c.then-span-eq0.branch [
        | then-span-eq0-via-then-span-eq0 w ↦ absurd (omega arith)
        | then-span-eq0-via-else-span-eq0+then-span-n w ↦ absurd (omega arith)
        | then-span-eq0-via-else-span-eq0+else-span-n+then-span-n-2 w ↦ absurd (omega arith)
      ],
)

pub returns-then-span-whole : goal.returns-then-span-whole
returns-then-span-whole c =
    let p = c.next_power_of_two-whole.ensures in (
      λ h. IsSubtree-from_tests c.args.n c.args.span.first c.args.span.count _ p.power p.lower_bound p.upper_bound
          (omega arith) (omega arith) c.if-span-whole-eq0.true (inl c.if-span-whole.true),
      λ h. eq-eqb _ _ c.if-span-whole.true,
    )

pub returns-else-span-whole : goal.returns-else-span-whole
returns-else-span-whole c =
    let p = c.next_power_of_two-whole.ensures in (
      λ h. IsSubtree-from_tests c.args.n c.args.span.first c.args.span.count _ p.power p.lower_bound p.upper_bound
          (omega arith) (omega arith) c.if-span-whole-eq0.true (inr (eqb-true _ _ h)),
      λ h.
          let tests = tests-from_IsSubtree c.args.n c.args.span.first c.args.span.count _ c.requires.some p.power
          p.lower_bound p.upper_bound h in
          elim tests.3 [ inl full ↦ absurd (c.if-span-whole.false full) | inr end ↦ eq-eqb _ _ end ],
    )

pub returns-else-span-whole-eq0 : goal.returns-else-span-whole-eq0
returns-else-span-whole-eq0 c =
    let p = c.next_power_of_two-whole.ensures in (
      λ h. absurd (c.if-span-whole-eq0.false (eqb-true _ _ h)),
      λ h. eq-eqb _ _ (tests-from_IsSubtree c.args.n c.args.span.first c.args.span.count _ c.requires.some p.power
          p.lower_bound p.upper_bound h).2,
    )
