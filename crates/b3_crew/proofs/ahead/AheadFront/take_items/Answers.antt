use Rattle.std.proofs.Common.{List, [], ◌∷◌, ◌++◌, length, map, ◌∙◌, ap, length-append, arith}
use Rattle.b3_crew.specs.Crews.{IsAt, tasks_ahead}
use Rattle.b3_io.specs.Tasks.{task_of}
use Rattle.b3_io.specs.declared.items.Item.{Item}
use Rattle.b3_crew.proofs.CrewLemmas.{at_taken, taken_more}
use Rattle.b3_crew.proofs.ahead.AheadFront.take_items.Goals as goal

pub push-requires-clause-is : goal.push-requires-clause-is
push-requires-clause-is g c =
    let at : IsAt g.L.RunInput.tasks (tasks_ahead c.items.self (g.P.WorkItems.left c.items.work)) c.items.self.next =
    rw (c.items.invariant.left, c.items.invariant.next) c.requires.at in
    (at_taken (g.I.AnyItem.item c.in-Some.item) c.items.self.items (rw c.in-Some.is at c.in_ok-item.ensures.next) at).0

pub push-requires-clause-fit : goal.push-requires-clause-fit
push-requires-clause-fit g c = (rw c.in-Some.is at c.in_ok-item.ensures.fit) _ c.items.invariant.fits

pub push-requires-clause-room : goal.push-requires-clause-room
push-requires-clause-room g c =
    let at : IsAt g.L.RunInput.tasks (tasks_ahead c.items.self (g.P.WorkItems.left c.items.work)) c.items.self.next =
    rw (c.items.invariant.left, c.items.invariant.next) c.requires.at in
    let item = g.I.AnyItem.item c.in-Some.item in
    omega (
      arith,
      (at_taken item c.items.self.items (rw c.in-Some.is at c.in_ok-item.ensures.next) at).1,
      c.requires.few,
    )

pub items-preserved : goal.items-preserved
items-preserved g c = record {
  left = ap (λ (xs : List Item). map task_of xs ++ g.P.WorkItems.left c.next.new.self) c.in_ok-push.ensures.items
      ∙ taken_more (g.I.AnyItem.item c.in-Some.item) c.items.self.items (rw c.in-Some.is at c.in_ok-item.ensures.next)
      ∙ c.items.invariant.left;
  next = c.in_ok-push.ensures.next ∙ c.items.invariant.next;
  fits = c.next.ensures.still_fits _ ∙ c.items.invariant.fits;
}

pub items-smaller : goal.items-smaller
items-smaller g c =
    omega (
      arith,
      ap length c.in_ok-push.ensures.items,
      length-append c.items.self.items (g.I.AnyItem.item c.in-Some.item ∷ []),
      c.len.ensures,
      c.items-test.true,
    )
