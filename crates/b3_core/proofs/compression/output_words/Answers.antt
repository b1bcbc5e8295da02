use Rattle.std.proofs.Common.{◌++◌, ℕ, List, map, get_or, bit_xor, refl, sym, ◌∙◌}
use Rattle.std.specs.List.{range_with_len}
use Rattle.std.specs.Simd.Lanes.{zip2}
use Rattle.b3_core.specs.Compression.{output_words}
use Rattle.b3_core.specs.Rows.{row_words}
use Rattle.b3_core.proofs.Lists.{elements}
use Rattle.b3_core.proofs.RowRounds.{same_on_rows}
use Rattle.b3_core.proofs.compression.output_words.Goals as goal

-- the words of a row, one by one
abbrev told : List ℕ → List ℕ
told row = map (λ i. get_or row i 0) (range_with_len 0 4)

-- the output words, one by one
abbrev words : List ℕ × List ℕ × List ℕ × List ℕ → List ℕ → List ℕ → List ℕ
words v h0 h1 =
    told (zip2 bit_xor v.0 v.2) ++ told (zip2 bit_xor v.1 v.3) ++ told (zip2 bit_xor v.2 h0)
    ++ told (zip2 bit_xor v.3 h1)

pub returns : goal.returns
returns c =
    let v = c.args.v in
    let h0 = elements c.args.h.0 4 c.requires.chaining.0 in
    let h1 = elements c.args.h.1 4 c.requires.chaining.1 in
    (λ i. words v (h0 i) (h1 i))
    ∙ same_on_rows (λ v. words v (told c.args.h.0) (told c.args.h.1))
    (λ v. output_words (row_words v) (told c.args.h.0 ++ told c.args.h.1)) (λ a b c d. refl) v c.requires.rows
    ∙ sym (λ i. output_words (row_words v) (h0 i ++ h1 i))
