use Rattle.std.proofs.Common.{◌≡◌, ◌-◌, length}
use Rattle.b3_crew.specs.Crews.{IsUnderWay}
use Rattle.b3_devices.specs.Devices.{io_state_of, loans}
use Rattle.b3_check.proofs.engine.Engine.do_items.Given as goal

-- the run has come to the items that are taken
abbrev pub invariant-turns : goal.invariant-turns
invariant-turns g l = record {
  before : IsUnderWay g.L.RunInput.range g.L.RunInput.tasks g.L.RunInput.start (g.P.WorkItems.left l.work)
      (g.P.WorkItems.fits l.work g.L.RunInput.range.length) l.ahead
      (io_state_of g.S.Shelf g.O.Sink g.E.Sink l.devices) l.saying;
  counted : l.saying.uncounted ≡ 0;
  loans : loans l.devices ≡ loans l.fn.devices;
  limits : l.self.limits ≡ l.fn.self.limits;
  range : l.self.digester.range ≡ l.fn.self.digester.range;
}

abbrev pub decreases-turns : goal.decreases-turns
decreases-turns g l = length g.L.RunInput.tasks - l.ahead.next
