use Rattle.std.proofs.Common.{rules}
use Rattle.b3_io.proofs.buffer.Buffer.for_reads.Goals as goal

pub returns-clause-some : goal.returns-clause-some
returns-clause-some c = search rules
