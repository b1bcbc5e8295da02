use Rattle.std.proofs.Common.{List, ℕ, ap, ◌∙◌}
use Rattle.b3_core.specs.Rows.{diagonalized, half_columns, row_words, undiagonalized}
use Rattle.b3_core.specs.Pairs.{half, half_rows}
use Rattle.b3_core.proofs.HalfRows.{rows-half}
use Rattle.b3_core.proofs.RowRounds.{length-row_words, round-rows}
use Rattle.b3_core.proofs.pair_rows.round.Goals as goal

pub returns-clause-words : goal.returns-clause-words
returns-clause-words c p p_in =
    let m = c.args.m in
    let rows = rows-half p c.args.v p_in c.requires.rows in
    let first : List ℕ → List ℕ → List ℕ = λ x v. half_columns v (half p x) 16 12 in
    let other : List ℕ → List ℕ → List ℕ = λ x v. half_columns v (half p x) 8 7 in
    let columns = c.half_columns-v-2.ensures.words p p_in ∙ ap (other m.1) (c.half_columns-v.ensures.words p p_in) in
    let diagonals =
    c.half_columns-v-4.ensures.words p p_in
    ∙ ap (other m.3) (c.half_columns-v-3.ensures.words p p_in
    ∙ ap (first m.2) (c.diagonalized-v.ensures.words p p_in ∙ ap diagonalized columns)) in
    c.undiagonalized.ensures.words p p_in
    ∙ ap undiagonalized diagonals
    ∙ round-rows (row_words (half_rows p c.args.v)) (half_rows p m) (length-row_words (half_rows p c.args.v) rows)
    (rows-half p m p_in c.requires.message)
