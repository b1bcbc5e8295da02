use Rattle.std.proofs.Common.{◌≡◌, ◌-◌, length, true}
use Rattle.b3_crew.specs.Crews.{tasks_ahead}
use Rattle.b3_crew.proofs.ahead.AheadFront.take_items.Given as goal

-- what is left is the same
abbrev pub invariant-items : goal.invariant-items
invariant-items g l = record {
  left : tasks_ahead l.self (g.P.WorkItems.left l.work) ≡ tasks_ahead l.fn.self (g.P.WorkItems.left l.fn.work);
  next : l.self.next ≡ l.fn.self.next;
  fits : g.P.WorkItems.fits l.work g.L.RunInput.range.length ≡ true;
}

abbrev pub decreases-items : goal.decreases-items
decreases-items g l = l.count - length l.self.items
