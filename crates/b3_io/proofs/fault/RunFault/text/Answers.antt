use Rattle.std.proofs.Common.{ap, sym}
use Rattle.b3_io.specs.Faults.{fault_text}
use Rattle.b3_io.proofs.fault.RunFault.text.Goals as goal

pub returns-in-Memory : goal.returns-in-Memory
returns-in-Memory c = ap fault_text (sym c.in-Memory.is)
