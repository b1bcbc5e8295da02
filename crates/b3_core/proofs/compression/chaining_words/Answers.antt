use Rattle.std.proofs.Common.{◌+◌, ◌++◌, sym, ◌∙◌}
use Rattle.std.proofs.lemmas.List.{length-append}
use Rattle.b3_core.proofs.Lists.{elements}
use Rattle.b3_core.proofs.compression.chaining_words.Goals as goal

pub returns : goal.returns
returns c =
    let h = c.args.h in
    sym (elements (h.0 ++ h.1) 8 (length-append h.0 h.1 ∙ (λ i. c.requires.0 i + c.requires.1 i)))
