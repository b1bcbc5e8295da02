use Rattle.std.proofs.Common.{zero, suc, sym, arith}
use Rattle.b3_core.specs.Pairs.{half_chaining}
use Rattle.b3_core.proofs.Lists.{elements}
use Rattle.b3_core.proofs.pair_chunks.both_words.Goals as goal

pub returns : goal.returns
returns c zero lt =
    sym (λ i. half_chaining 0 (elements c.args.h.0 8 c.requires.0 i, elements c.args.h.1 8 c.requires.1 i))
returns c (suc zero) lt =
    sym (λ i. half_chaining 1 (elements c.args.h.0 8 c.requires.0 i, elements c.args.h.1 8 c.requires.1 i))
returns c (suc (suc j)) lt = absurd (omega (arith, lt))
