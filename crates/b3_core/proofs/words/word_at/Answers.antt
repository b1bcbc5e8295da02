use Rattle.std.proofs.Common.{arith}
use Rattle.b3_core.proofs.words.word_at.Goals as goal

pub returns : goal.returns
returns c = omega arith
