use Rattle.std.proofs.Common.{◌≡◌, ◌∙◌, ◌<◌, ap, arith, slice_index, sym}
use Rattle.std.proofs.lemmas.Str.{IsCharBoundary-after_ascii}
use Rattle.b3_lines.proofs.reading.after_mark.Goals as goal

pub range_from-requires : goal.range_from-requires
range_from-requires c =
    let text = c.args.text.now in
    let mark : slice_index text 0 ≡ 92 =
    ap (λ t. slice_index t 0) (sym c.as_bytes.ensures.value) ∙ c.if-as_bytes-eq92.true in
    let ascii : slice_index text 0 < 128 = omega (arith, mark) in
    λ _. IsCharBoundary-after_ascii text 0 c.utf8.text c.requires ascii
