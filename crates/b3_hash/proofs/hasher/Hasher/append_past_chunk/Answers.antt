use Rattle.std.proofs.Common.{rules}
use Rattle.b3_hash.proofs.hasher.Hasher.append_past_chunk.Goals as goal

pub returns-in-Some-clause-len : goal.returns-in-Some-clause-len
returns-in-Some-clause-len c = search rules

pub returns-in-Some-clause-stands_for : goal.returns-in-Some-clause-stands_for
returns-in-Some-clause-stands_for c = search rules
