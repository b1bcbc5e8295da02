use Rattle.std.proofs.Common.{ℕ, List, length, sym, ap, ◌∙◌}
use Rattle.std.specs.Simd.Lanes.{chunk}
use borrow.Rule.Slice.PartMut.{mid_of}
use Rattle.b3_core.specs.Rows.{row_words}
use Rattle.b3_core.proofs.Lists.{elements}
use Rattle.b3_core.proofs.compression.message_rows.Goals as goal

pub returns-clause-rows : goal.returns-clause-rows
returns-clause-rows c =
    let m = elements c.args.m.now 16 c.told-m in
    let row = λ (n : ℕ). ap (λ (xs : List ℕ). length (chunk 0 4 (mid_of n 4 xs))) m in
    (row 0, row 4, row 8, row 12)

pub returns-clause-words : goal.returns-clause-words
returns-clause-words c =
    let m = elements c.args.m.now 16 c.told-m in
    let row = λ (n : ℕ). λ (xs : List ℕ). chunk 0 4 (mid_of n 4 xs) in
    ap (λ (xs : List ℕ). row_words (row 0 xs, row 4 xs, row 8 xs, row 12 xs)) m ∙ sym m
