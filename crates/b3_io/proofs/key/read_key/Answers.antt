use Rattle.std.proofs.Common.{arith, rules}
use Rattle.b3_io.proofs.ReadLemmas.{key_filled}
use Rattle.b3_io.proofs.key.read_key.Goals as goal

pub returns-in-Ok-Some-clause-answer : goal.returns-in-Ok-Some-clause-answer
returns-in-Ok-Some-clause-answer g c = λ told.
    key_filled c.fill.new.buffer (rw c.in-Ok-Some.field-0-is at c.in-Ok-Some.ensures.filled)
    (search (arith, rules)) told
