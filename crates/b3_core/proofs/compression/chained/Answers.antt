use Rattle.std.proofs.Common.{take, ap, ◌∙◌}
use Rattle.b3_core.specs.Compression.{compress, output_words, rounds}
use Rattle.b3_core.specs.Rows.{chaining_words, message_of, row_words}
use Rattle.b3_core.proofs.RowRounds.{chaining-rows, length-zipped_row}
use Rattle.b3_core.proofs.compression.chained.Goals as goal

pub returns-clause-chaining : goal.returns-clause-chaining
returns-clause-chaining c =
    let rows = c.rounds-v.ensures.rows in
    (length-zipped_row _ _ _ rows.0 rows.2, length-zipped_row _ _ _ rows.1 rows.3)

pub returns-clause-words : goal.returns-clause-words
unfolding compress
returns-clause-words c =
    let h = chaining_words c.args.h in
    chaining-rows h c.rounds-v.result c.rounds-v.ensures.rows
    ∙ ap (λ v. take 8 (output_words v h)) (c.rounds-v.ensures.words
    ∙ ap (λ v. rounds 7 v (message_of (row_words c.args.m))) c.initial_state.ensures.words)
