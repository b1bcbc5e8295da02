use Rattle.std.proofs.Common.{arith}
use Rattle.b3_files.proofs.outputs.OutputSinkSink.write.Goals as goal

pub returns-in-Ok-clause-some : goal.returns-in-Ok-clause-some
returns-in-Ok-clause-some g c = omega arith
