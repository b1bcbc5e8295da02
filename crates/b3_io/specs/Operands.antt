-- What a run is done over: names that are given, or those in a list of names.
use Rattle.std.specs.Prelude.{ℕ, ◌+◌, if◌then◌else◌, List, [], ◌∷◌, ◌++◌, map, string_bytes}
use Rattle.std.specs.Str.{is_utf8}
use Rattle.b3_lines.specs.Lines.{pieces_of}
use Rattle.b3_io.specs.declared.operands.Operand.{Operand as NextOperand}
use Rattle.b3_io.specs.declared.operands.Operand.TheVariants.{Text as NextText, NotText as NextNotText}
use Rattle.b3_io.specs.declared.operands.Operands.{Operands}

-- an operand: a name, or in its place the list of names in which the name of this number is not text
pub data Operand : Type 0 where
  Text : List ℕ → Operand
  NotText : List ℕ → ℕ → Operand

-- pieces of the list of this name, one after the other, of which the first has this number
abbrev pub operands_from : List ℕ → ℕ → List (List ℕ) → List Operand
operands_from list number [] = []
operands_from list number (piece ∷ pieces) =
    (if is_utf8 piece then Text piece else NotText list number) ∷ operands_from list (number + 1) pieces

-- the operands in a list of names: the pieces of its content that NUL ends, the last perhaps ended by none
abbrev pub operands_in : List ℕ → List ℕ → List Operand
operands_in list content = operands_from list 1 (pieces_of 0 content)

-- an operand that a run comes to
abbrev pub operand_of : NextOperand → Operand
operand_of (NextText name) = Text name.now
operand_of (NextNotText list number) = NotText list.now number

-- those that are left: the ones that are given, and those of what is left of a list
abbrev pub operands_left : Operands → List Operand
operands_left operands =
    map (λ name. Text (string_bytes name)) operands.given.now
    ++ operands_from operands.list.now operands.number (pieces_of 0 operands.text.now)
