-- A text without bytes takes no column.
use Rattle.std.proofs.Common.{◌≡◌, [], refl}
use Rattle.std.specs.Str.{chars}
use Rattle.unicode_width.specs.Width.{str_width}
use Rattle.b3_progress.specs.Columns.{columns_of}

pub columns_of-none : columns_of [] ≡ 0
unfolding chars str_width
columns_of-none = refl
