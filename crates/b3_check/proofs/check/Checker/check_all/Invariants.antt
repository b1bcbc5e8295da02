use Rattle.std.proofs.Common.{◌≡◌, length}
use Rattle.b3_devices.specs.Devices.{loans, io_state_of}
use Rattle.b3_io.specs.Operands.{operands_left}
use Rattle.b3_io.proofs.CheckLemmas.{ListsSoFar}
use Rattle.b3_check.proofs.check.Checker.check_all.Given as goal

-- the lists so far are checked
abbrev pub invariant-loop-list : goal.invariant-loop-list
invariant-loop-list g l =
    let seen = io_state_of g.S.Shelf g.O.Sink g.E.Sink in
    record {
      so_far : ListsSoFar l.fn.self.options (operands_left l.fn.lists) (operands_left l.lists) (seen l.fn.devices)
          (seen l.devices) l.tally;
      loans : loans l.devices ≡ loans l.fn.devices;
      options : l.self.options ≡ l.fn.self.options;
    }

abbrev pub decreases-loop-list : goal.decreases-loop-list
decreases-loop-list g l = length (operands_left l.lists)
