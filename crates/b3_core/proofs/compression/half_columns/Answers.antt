use Rattle.b3_core.specs.Words.{add32}
use Rattle.b3_core.proofs.RowRounds.{half_columns-rows, length-rotated_row, length-zipped_row}
use Rattle.b3_core.proofs.compression.half_columns.Goals as goal

pub rotated4-d-requires-clause-wide : goal.rotated4-d-requires-clause-wide
rotated4-d-requires-clause-wide c =
    let rows = c.requires.rows in
    length-zipped_row _ _ _ rows.3 (length-zipped_row _ _ _ (length-zipped_row _ _ _ rows.0 rows.1) c.requires.x)

pub rotated4-b-requires-clause-wide : goal.rotated4-b-requires-clause-wide
rotated4-b-requires-clause-wide c =
    let rows = c.requires.rows in
    let a_long = length-zipped_row add32 _ c.args.x (length-zipped_row add32 c.args.v.0 c.args.v.1 rows.0 rows.1)
    c.requires.x in
    let d_long = length-rotated_row c.args.v.3 _ _ c.args.r rows.3 a_long c.rotated4-d.ensures in
    length-zipped_row _ _ _ rows.1 (length-zipped_row _ c.args.v.2 c.rotated4-d.result rows.2 d_long)

pub returns-clause-rows : goal.returns-clause-rows
returns-clause-rows c =
    let rows = c.requires.rows in
    let a_long = length-zipped_row add32 _ c.args.x (length-zipped_row add32 c.args.v.0 c.args.v.1 rows.0 rows.1)
    c.requires.x in
    let d_long = length-rotated_row c.args.v.3 _ _ c.args.r rows.3 a_long c.rotated4-d.ensures in
    let c_long = length-zipped_row add32 c.args.v.2 c.rotated4-d.result rows.2 d_long in
    (a_long, length-rotated_row c.args.v.1 _ _ c.args.s rows.1 c_long c.rotated4-b.ensures, c_long, d_long)

pub returns-clause-words : goal.returns-clause-words
returns-clause-words c =
    half_columns-rows c.args.v c.args.x c.rotated4-d.result c.rotated4-b.result c.args.r c.args.s
    c.requires.rows c.requires.x c.rotated4-d.ensures c.rotated4-b.ensures
