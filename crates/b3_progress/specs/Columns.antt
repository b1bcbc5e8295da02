-- How wide a text is on a terminal.
use Rattle.std.specs.Prelude.{ℕ, List, false, chars}
use Rattle.unicode_width.specs.Width.{str_width}

-- how many columns these bytes take; characters of ambiguous width are narrow
abbrev pub columns_of : List ℕ → ℕ
columns_of text = str_width false (chars text)
