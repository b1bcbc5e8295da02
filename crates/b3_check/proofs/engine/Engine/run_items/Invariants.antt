use Rattle.b3_devices.specs.Devices.{io_state_of}
use Rattle.b3_check.proofs.engine.Engine.run_items.Given as goal

abbrev pub ghosts-run_as : goal.ghosts-run_as
ghosts-run_as g a = record {
  start = io_state_of g.S.Shelf g.O.Sink g.E.Sink a.devices.now;
  range = a.self.now.digester.range;
  tasks = g.P.WorkItems.left a.work.now;
}
