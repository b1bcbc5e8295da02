-- Check lines as they are read: what an accepted line says, and the first refusal of any other.
use Rattle.std.specs.Prelude.{◌≡◌, ◌≢◌, ◌⊎◌, ℕ, ◌-◌, ◌==◌, ◌&&◌, Bool, false, not, nat_lt, if◌then◌else◌, List, [], ◌∷◌, ◌++◌, length, take, drop, slice_index, Option, Some, None, MatchOption, Ok, IsUtf8, bytes_eq, nat_eq}
use Rattle.std.specs.List.{list_all, starts_with}
use Rattle.std.specs.Str.{is_utf8}
use Rattle.hex.specs.Hex.{decode_of, is_hex_digit}
use Rattle.b3_lines.specs.declared.fault.LineFault.{LineFault}
use Rattle.b3_lines.specs.declared.fault.LineFault.TheVariants.{Empty, NotText, Short, NotDigits, NoSpaces, NoName, BadEscape, BadCharacter}
use Rattle.b3_lines.specs.Names.{Spells, has_bad_escape, holds_bad_character, unescaped}
use Rattle.b3_lines.specs.Writing.{spaces, tag_prefix, tag_separator}

-- the line, with one carriage return at its very end taken away
unfoldable pub without_carriage_return : List ℕ → List ℕ
without_carriage_return line =
    let last = length line - 1 in
    if slice_index line last == 13 then take last line else line

-- the digits of a digest of 32 bytes, in either case
pub record AreDigits (digits digest : List ℕ) : Type 0 where
  pub count : length digits ≡ 64
  pub value : decode_of digits ≡ Ok digest

-- digits, two spaces and the name as it stands
pub record SaysUnmarked (text digest name shown : List ℕ) : Type 0 where
  pub digits : List ℕ
  pub digits_are : AreDigits digits digest
  pub text_is : text ≡ digits ++ spaces ++ name
  pub shown_is : shown ≡ name

-- `\`, digits, two spaces and pieces that spell the name
pub record SaysMarked (text digest name shown : List ℕ) : Type 0 where
  pub digits : List ℕ
  pub raw_name : List ℕ
  pub digits_are : AreDigits digits digest
  pub text_is : text ≡ 92 ∷ (digits ++ spaces ++ raw_name)
  pub spells : Spells raw_name name
  pub shown_is : shown ≡ 92 ∷ raw_name

-- an accepted plain line, and the digest, the name and the shown name that it says
pub record Reads (line digest name shown : List ℕ) : Type 0 where
  pub says : SaysUnmarked (without_carriage_return line) digest name shown
      ⊎ SaysMarked (without_carriage_return line) digest name shown
  pub is_text : IsUtf8 (without_carriage_return line)
  pub is_named : name ≢ []
  pub is_lawful : holds_bad_character name ≡ false

-- `BLAKE3 (`, the name as it stands, `) = ` and digits
pub record SaysTagged (text digest name shown : List ℕ) : Type 0 where
  pub digits : List ℕ
  pub digits_are : AreDigits digits digest
  pub text_is : text ≡ tag_prefix ++ name ++ tag_separator ++ digits
  pub shown_is : shown ≡ name

-- `\`, `BLAKE3 (`, pieces that spell the name, `) = ` and digits
pub record SaysMarkedTagged (text digest name shown : List ℕ) : Type 0 where
  pub digits : List ℕ
  pub raw_name : List ℕ
  pub digits_are : AreDigits digits digest
  pub text_is : text ≡ 92 ∷ (tag_prefix ++ raw_name ++ tag_separator ++ digits)
  pub spells : Spells raw_name name
  pub shown_is : shown ≡ 92 ∷ raw_name

-- an accepted tagged line, and the digest, the name and the shown name that it says
pub record ReadsTagged (line digest name shown : List ℕ) : Type 0 where
  pub says : SaysTagged (without_carriage_return line) digest name shown
      ⊎ SaysMarkedTagged (without_carriage_return line) digest name shown
  pub is_text : IsUtf8 (without_carriage_return line)
  pub is_named : name ≢ []
  pub is_lawful : holds_bad_character name ≡ false

-- an accepted line of either form
abbrev pub IsReadAs : List ℕ → List ℕ → List ℕ → List ℕ → Type 0
IsReadAs line digest name shown = Reads line digest name shown ⊎ ReadsTagged line digest name shown

-- whether a line is marked: its first byte is `\`
abbrev pub has_mark : List ℕ → Bool
has_mark text = slice_index text 0 == 92

-- what follows the mark, where there is one
abbrev pub after_mark : List ℕ → List ℕ
after_mark text = if has_mark text then drop 1 text else text

-- the name that stands in a line as `raw_name`
abbrev pub name_of : Bool → List ℕ → List ℕ
name_of marked raw_name = if marked then unescaped raw_name else raw_name

-- the shown form of the name that stands in a line as `raw_name`
abbrev pub shown_of : Bool → List ℕ → List ℕ
shown_of marked raw_name = if marked then 92 ∷ raw_name else raw_name

-- how the parts of a line lie in what follows its mark: whether that has too few bytes for them, the digits,
-- whether what must stand between digits and name does, and the name as it stands
pub record Layout : Type 0 where
  pub is_short : Bool
  pub digits : List ℕ
  pub has_separator : Bool
  pub raw_name : List ℕ

-- the first 64 bytes, two spaces, and what follows
abbrev pub plain_layout : List ℕ → Layout
plain_layout rest = record {
  is_short = nat_lt (length rest) 66;
  digits = take 64 rest;
  has_separator = bytes_eq (take 2 (drop 64 rest)) spaces;
  raw_name = drop 66 rest;
}

-- the last 64 bytes, `) = ` in front of them, and what is left after the first eight
abbrev pub tagged_layout : List ℕ → Layout
tagged_layout rest =
    let start = length rest - 64 in
    record {
      is_short = nat_lt (length rest) 76;
      digits = drop start rest;
      has_separator = bytes_eq (take 4 (drop (start - 4) rest)) tag_separator;
      raw_name = take (start - 12) (drop 8 rest);
    }

-- whether what follows the mark is read as tagged: it begins with `BLAKE3 (`
abbrev pub is_tagged : List ℕ → Bool
is_tagged rest = starts_with nat_eq rest tag_prefix

-- how the parts of a line lie in what follows its mark
abbrev pub layout_of : List ℕ → Layout
layout_of rest = if is_tagged rest then tagged_layout rest else plain_layout rest

-- the first refusal that holds of parts that lie so, in the order of the numbers of `LineFault`, which decide
abbrev pub refusal_of : Bool → Layout → Option LineFault
refusal_of marked layout =
    if layout.is_short then Some Short
    else if not (list_all is_hex_digit layout.digits) then Some NotDigits
    else if not layout.has_separator then Some NoSpaces
    else if length layout.raw_name == 0 then Some NoName
    else if marked && has_bad_escape layout.raw_name then Some BadEscape
    else if holds_bad_character (name_of marked layout.raw_name) then Some BadCharacter
    else None

-- the first refusal that holds of what follows the mark
unfoldable pub refusal_after_mark : Bool → List ℕ → Option LineFault
refusal_after_mark marked rest = refusal_of marked (layout_of rest)

-- the first refusal that holds of a line, in the same order
unfoldable pub first_refusal : List ℕ → Option LineFault
first_refusal line =
    let text = without_carriage_return line in
    if length text == 0 then Some Empty
    else if not (is_utf8 text) then Some NotText
    else refusal_after_mark (has_mark text) (after_mark text)

-- the one digest, name and shown name that the line says
pub record SaysOne (line : List ℕ) : Type 0 where
  pub digest : List ℕ
  pub name : List ℕ
  pub shown : List ℕ
  pub reads : IsReadAs line digest name shown
  pub only : (d n s : List ℕ) → IsReadAs line d n s → (d ≡ digest) × (n ≡ name) × (s ≡ shown)

-- a line that is not refused says one thing, and one that is refused says nothing
abbrev pub HasOneOutcome : List ℕ → Type 0
HasOneOutcome line =
    MatchOption (first_refusal line) (SaysOne line)
    (λ _. (digest name shown : List ℕ) → ¬ IsReadAs line digest name shown)

-- no accepted plain line begins with `BLAKE3 (`, and so no line is read both ways
pub record HasOneForm (line : List ℕ) : Type 0 where
  pub plain : (digest name shown rest : List ℕ) → Reads line digest name shown → line ≢ tag_prefix ++ rest
  pub one : (digest name shown d n s : List ℕ) → Reads line digest name shown → ¬ ReadsTagged line d n s
