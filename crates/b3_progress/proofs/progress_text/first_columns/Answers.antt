use Rattle.std.proofs.Common.{ap, arith}
use Rattle.b3_progress.specs.Columns.{columns_of}
use Rattle.b3_progress.proofs.Widths.{columns_of-none}
use Rattle.b3_progress.proofs.progress_text.first_columns.Goals as goal

pub loop-character-init : goal.loop-character-init
loop-character-init c = omega (arith, ap columns_of c.new-front.ensures.bytes, columns_of-none)

pub loop-character-preserved : goal.loop-character-preserved
loop-character-preserved c =
    omega (arith, c.if-width-gt-MAX_COLUMNS.false, c.width.ensures.value, ap columns_of c.as_str.ensures.value)
