use Rattle.std.proofs.Common.{◌≤◌, length}
use Rattle.b3_crew.specs.Crews.{IsUnderWay}
use Rattle.b3_io.specs.Runs.{io_state}
use Rattle.b3_crew.proofs.crew_run.say_known.Given as goal

-- the run has come to the items that are taken
abbrev pub invariant-items : goal.invariant-items
invariant-items g l = record {
  before : IsUnderWay g.L.RunInput.range g.L.RunInput.tasks g.L.RunInput.start (g.P.WorkItems.left l._work)
      (g.P.WorkItems.fits l._work g.L.RunInput.range.length) (g.A.Front.state l.ahead)
      (io_state g.S.Shelf g.O.Sink g.E.Sink l.site.shelf.now l.out l.err) l.saying;
  further : (g.A.Front.state l.fn.ahead).next ≤ (g.A.Front.state l.ahead).next;
}

abbrev pub decreases-items : goal.decreases-items
decreases-items g l = length (g.A.Front.state l.ahead).items
