-- What is seen of the devices of a run.
use Rattle.std.specs.Prelude.{ℕ}
use Rattle.b3_devices.specs.declared.devices.Devices.{Devices}
use Rattle.b3_io.specs.declared.shelf.Shelf.{Ghosts as ShelfWords}
use Rattle.b3_io.specs.declared.sink.Sink.{Ghosts as SinkWords}
use Rattle.b3_io.specs.Runs.{IoState, io_state}

-- the state of the shelf and the sinks
abbrev pub io_state_of : {S O E : Type 0} → ShelfWords S → SinkWords O → SinkWords E → Devices S O E → IoState
io_state_of s o e devices = io_state s o e devices.shelf.now devices.out.now devices.err.now

-- which borrows they hold
abbrev pub loans : {S O E : Type 0} → Devices S O E → ℕ × ℕ × ℕ
loans devices = (devices.shelf.ghost_name, devices.out.ghost_name, devices.err.ghost_name)
