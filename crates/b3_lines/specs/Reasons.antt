-- The texts of the refusals.
use Rattle.std.specs.Prelude.{ℕ, List, codes}
use Rattle.b3_lines.specs.declared.fault.LineFault.{LineFault}
use Rattle.b3_lines.specs.declared.fault.LineFault.TheVariants.{Empty, NotText, Short, NotDigits, NoSpaces, NoName, BadEscape, BadCharacter, Memory}

abbrev pub reason_of : LineFault → List ℕ
reason_of Empty = codes "empty line"
reason_of NotText = codes "not text"
reason_of Short = codes "short line"
reason_of NotDigits = codes "bad digits"
reason_of NoSpaces = codes "missing spaces"
reason_of NoName = codes "no name"
reason_of BadEscape = codes "bad escape"
reason_of BadCharacter = codes "bad character"
reason_of Memory = codes "out of memory"
