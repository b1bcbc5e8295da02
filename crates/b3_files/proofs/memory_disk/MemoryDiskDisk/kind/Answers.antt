use Rattle.std.proofs.Common.{rules}
use Rattle.b3_files.proofs.memory_disk.MemoryDiskDisk.kind.Goals as goal

pub returns-in-Some-clause-len : goal.returns-in-Some-clause-len
returns-in-Some-clause-len c = search rules
