use Rattle.std.proofs.Common.{ℕ, List, length, sym, ap, ◌∙◌}
use Rattle.std.specs.Simd.Lanes.{chunk}
use borrow.Rule.Slice.PartMut.{mid_of}
use Rattle.b3_core.specs.Rows.{chaining_words}
use Rattle.b3_core.proofs.Lists.{elements}
use Rattle.b3_core.proofs.compression.chaining_rows.Goals as goal

pub returns-clause-chaining : goal.returns-clause-chaining
returns-clause-chaining c =
    let row = λ (n : ℕ). ap (λ (xs : List ℕ). length (chunk 0 4 (mid_of n 4 xs))) (elements c.args.h.now 8 c.told-h) in
    (row 0, row 4)

pub returns-clause-words : goal.returns-clause-words
returns-clause-words c =
    let h = elements c.args.h.now 8 c.told-h in
    ap (λ (xs : List ℕ). chaining_words (chunk 0 4 (mid_of 0 4 xs), chunk 0 4 (mid_of 4 4 xs))) h ∙ sym h
