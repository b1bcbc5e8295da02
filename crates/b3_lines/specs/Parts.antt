-- The parts of a line that is accepted, before its texts are made: for private contracts alone.
use Rattle.std.specs.Prelude.{◌≡◌, ℕ, ◌+◌, Bool, true, false, List, length, None, Ok}
use Rattle.hex.specs.Hex.{decode_of}
use Rattle.b3_lines.specs.Names.{has_bad_escape, unescaped}
use Rattle.b3_lines.specs.Reading.{Layout, after_mark, first_refusal, has_mark, layout_of, refusal_after_mark, without_carriage_return}

-- parts that lie so pass the tests of all but the name, and say this digest and this name as it stands
pub record IsCut (layout : Layout) (digest raw_name : List ℕ) : Type 0 where
  pub long : layout.is_short ≡ false
  pub digits : decode_of layout.digits ≡ Ok digest
  pub parted : layout.has_separator ≡ true
  pub spelling : raw_name ≡ layout.raw_name

-- what follows the mark is not refused, and has these parts: the digest, the name as it stands,
-- and how many escapes the name of a marked line has
pub record AreParts (marked : Bool) (rest digest raw_name : List ℕ) (escapes : ℕ) : Type 0 where
  pub accepted : refusal_after_mark marked rest ≡ None
  pub digits : decode_of (layout_of rest).digits ≡ Ok digest
  pub spelling : raw_name ≡ (layout_of rest).raw_name
  pub lawful : marked ≡ true → has_bad_escape raw_name ≡ false
  pub counted : marked ≡ true → length (unescaped raw_name) + escapes ≡ length raw_name

-- a line is not refused, and has these parts
pub record HasParts (line digest raw_name : List ℕ) (marked : Bool) (escapes : ℕ) : Type 0 where
  pub accepted : first_refusal line ≡ None
  pub mark : marked ≡ has_mark (without_carriage_return line)
  pub parts : AreParts marked (after_mark (without_carriage_return line)) digest raw_name escapes
