use Rattle.std.proofs.Common.{rules, inl, inr, arith, refl, ap}
use Rattle.std.specs.Prelude.{Some}
use Rattle.b3_core.specs.Subtrees.{IsSubtree}
use Rattle.b3_core.proofs.Grid.{InGrid-from_IsSubtree}
use Rattle.b3_core.proofs.Siblings.{has_parent, left_sibling, only_sibling, right_found}
use Rattle.b3_core.proofs.spans.sibling.Goals as goal
use Rattle.b3_core.proofs.spans.sibling.Goals.{else-end-n-via-then-end-n+else-span-eq0, else-end-n-via-else-end-n}
use Rattle.b3_core.proofs.spans.sibling.Goals.{then-span-n-via-then-span-n}
use Rattle.b3_core.proofs.spans.sibling.Goals.{then-span-n-via-else-span-n+then-not-is_subtree}

pub returns-then-span-n-clause-only : goal.returns-then-span-n-clause-only
returns-then-span-n-clause-only c = λ other siblings.
    let (up, short) = has_parent c.args.n c.args.span other c.requires.some siblings in
    elim c.then-span-n.branch [
      | then-span-n-via-then-span-n w ↦ absurd (omega (arith, short, w.if-span-n.true))
      | then-span-n-via-else-span-n+then-not-is_subtree w ↦ absurd (search (
        rules,
        w.is_subtree.ensures.1 up,
        w.if-not-is_subtree.true,
      ))
    ]

pub overflow_add-end : goal.overflow_add-end
overflow_add-end c =
    let up : IsSubtree c.args.n c.args.span.first c.args.span.count = search rules in
    let at = InGrid-from_IsSubtree c.args.n c.requires.some up in
    let ends = at.ends in
    omega arith

pub returns-then-span-eq0-clause-found : goal.returns-then-span-eq0-clause-found
returns-then-span-eq0-clause-found c =
    let up : IsSubtree c.args.n c.args.span.first c.args.span.count = search rules in
    rw c.min-count.ensures (inl (left_sibling c.args.n c.args.span.first c.args.span.count c.requires.some up
    c.if-span-eq0.true c.if-end-n.true))

pub returns-then-span-eq0-clause-only : goal.returns-then-span-eq0-clause-only
returns-then-span-eq0-clause-only c = λ other siblings.
    ap Some (only_sibling c.args.n c.args.span _ other c.requires.some (returns-then-span-eq0-clause-found c) siblings)

pub overflow_sub-result : goal.overflow_sub-result
overflow_sub-result c =
    let up : IsSubtree c.args.n c.args.span.first c.args.span.count = search rules in
    let at = InGrid-from_IsSubtree c.args.n c.requires.some up in
    let ends = at.ends in
    (right_found c.args.n c.args.span.first c.args.span.count c.requires.some up c.if-span-n.false (omega arith)
    (λ room divides. elim c.else-end-n.branch [
      | else-end-n-via-then-end-n+else-span-eq0 w ↦ w.if-span-eq0.false divides
      | else-end-n-via-else-end-n w ↦ absurd (omega arith)
    ])
    _ refl).0

pub returns-clause-found : goal.returns-clause-found
returns-clause-found c =
    let up : IsSubtree c.args.n c.args.span.first c.args.span.count = search rules in
    let at = InGrid-from_IsSubtree c.args.n c.requires.some up in
    let ends = at.ends in
    inr (right_found c.args.n c.args.span.first c.args.span.count c.requires.some up c.if-span-n.false (omega arith)
    (λ room divides. elim c.else-end-n.branch [
      | else-end-n-via-then-end-n+else-span-eq0 w ↦ w.if-span-eq0.false divides
      | else-end-n-via-else-end-n w ↦ absurd (omega arith)
    ])
    _ refl).1

pub returns-clause-only : goal.returns-clause-only
returns-clause-only c = λ other siblings.
    ap Some (only_sibling c.args.n c.args.span _ other c.requires.some (returns-clause-found c) siblings)

pub returns-then-span-eq0-clause-there : goal.returns-then-span-eq0-clause-there
returns-then-span-eq0-clause-there c =
    (λ _. has_parent c.args.n c.args.span _ c.requires.some (returns-then-span-eq0-clause-found c), λ _. refl)

pub returns-clause-there : goal.returns-clause-there
returns-clause-there c = (λ _. has_parent c.args.n c.args.span _ c.requires.some (returns-clause-found c), λ _. refl)
