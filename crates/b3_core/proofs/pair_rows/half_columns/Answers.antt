use Rattle.std.proofs.Common.{◌≡◌, ◌++◌, sym, ap, ◌∙◌}
use Rattle.std.specs.Simd.Lanes.{zip2}
use Rattle.b3_core.specs.Words.{add32}
use Rattle.b3_core.specs.Pairs.{half, half_rows}
use Rattle.b3_core.proofs.HalfRows.{half-rotated_row, half-zip2, length-half, rows-half}
use Rattle.b3_core.proofs.RowRounds.{added_rows, half_columns-rows, length-rotated_row, length-zipped_row, rotated_row}
use Rattle.b3_core.proofs.pair_rows.half_columns.Goals as goal

pub xor_rotated8-d-requires-clause-y : goal.xor_rotated8-d-requires-clause-y
xor_rotated8-d-requires-clause-y c =
    length-zipped_row _ _ _ (length-zipped_row _ _ _ c.requires.rows.0 c.requires.rows.1) c.requires.x

pub xor_rotated8-b-requires-clause-y : goal.xor_rotated8-b-requires-clause-y
xor_rotated8-b-requires-clause-y c =
    let rows = c.requires.rows in
    let a_long = length-zipped_row add32 _ c.args.x (length-zipped_row add32 c.args.v.0 c.args.v.1 rows.0 rows.1)
    c.requires.x in
    length-zipped_row _ c.args.v.2 c.xor_rotated8-d.result rows.2
    (length-rotated_row c.args.v.3 _ _ c.args.r rows.3 a_long c.xor_rotated8-d.ensures)

pub returns-clause-rows : goal.returns-clause-rows
returns-clause-rows c =
    let rows = c.requires.rows in
    let a_long = length-zipped_row add32 _ c.args.x (length-zipped_row add32 c.args.v.0 c.args.v.1 rows.0 rows.1)
    c.requires.x in
    let d_long = length-rotated_row c.args.v.3 _ _ c.args.r rows.3 a_long c.xor_rotated8-d.ensures in
    let c_long = length-zipped_row add32 c.args.v.2 c.xor_rotated8-d.result rows.2 d_long in
    (a_long, length-rotated_row c.args.v.1 _ _ c.args.s rows.1 c_long c.xor_rotated8-b.ensures, c_long, d_long)

pub returns-clause-words : goal.returns-clause-words
returns-clause-words c p p_in =
    let v = c.args.v in
    let x = c.args.x in
    let y = c.xor_rotated8-d.result in
    let z = c.xor_rotated8-b.result in
    let rows = c.requires.rows in
    let front_long = length-zipped_row add32 v.0 v.1 rows.0 rows.1 in
    let a_long = length-zipped_row add32 (zip2 add32 v.0 v.1) x front_long c.requires.x in
    let y_long = length-rotated_row v.3 _ y c.args.r rows.3 a_long c.xor_rotated8-d.ensures in
    let c_long = length-zipped_row add32 v.2 y rows.2 y_long in
    let added : half p (added_rows v.0 v.1 x) ≡ added_rows (half p v.0) (half p v.1) (half p x) =
    half-zip2 add32 p (zip2 add32 v.0 v.1) x (front_long ∙ sym c.requires.x)
    ∙ ap (λ s. zip2 add32 s (half p x)) (half-zip2 add32 p v.0 v.1 (rows.0 ∙ sym rows.1)) in
    let sum : half p (zip2 add32 v.2 y) ≡ zip2 add32 (half p v.2) (half p y) =
    half-zip2 add32 p v.2 y (rows.2 ∙ sym y_long) in
    let y_is : half p y ≡ rotated_row (half p v.3) (added_rows (half p v.0) (half p v.1) (half p x)) c.args.r =
    ap (half p) c.xor_rotated8-d.ensures
    ∙ half-rotated_row p c.args.r v.3 (added_rows v.0 v.1 x) (rows.3 ∙ sym a_long)
    ∙ ap (λ a. rotated_row (half p v.3) a c.args.r) added in
    let z_is : half p z ≡ rotated_row (half p v.1) (zip2 add32 (half p v.2) (half p y)) c.args.s =
    ap (half p) c.xor_rotated8-b.ensures
    ∙ half-rotated_row p c.args.s v.1 (zip2 add32 v.2 y) (rows.1 ∙ sym c_long)
    ∙ ap (λ a. rotated_row (half p v.1) a c.args.s) sum in
    (λ i. added i ++ half p z ++ sum i ++ half p y)
    ∙ half_columns-rows (half_rows p v) (half p x) (half p y) (half p z) c.args.r c.args.s
    (rows-half p v p_in rows) (length-half p x p_in c.requires.x) y_is z_is
