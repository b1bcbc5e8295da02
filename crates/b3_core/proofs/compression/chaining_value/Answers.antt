use Rattle.std.proofs.Common.{take, ◌∙◌}
use Rattle.b3_core.specs.Compression.{compress}
use Rattle.b3_core.proofs.compression.chaining_value.Goals as goal

pub returns : goal.returns
returns c =
    let message = c.arranged-m.ensures.words ∙ c.message_rows.ensures.words in
    c.chaining_words.ensures
    ∙ c.chained.ensures.words
    ∙ (λ i. take 8 (compress (c.chaining_rows.ensures.words i) (message i) c.args.t c.args.b c.args.d))
