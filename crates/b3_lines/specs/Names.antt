-- Names in check lines, over lists of bytes: text is UTF-8 there, and the characters that are
-- escaped are ASCII.
use Rattle.std.specs.Prelude.{◌≢◌, ℕ, ◌==◌, ◌||◌, Bool, false, not, if◌then◌else◌, List, [], ◌∷◌}
use Rattle.std.specs.List.{list_any, flat_map, starts_with}
use Rattle.std.specs.Prelude.{nat_eq}

-- whether a character is escaped: `\`, a line feed or a carriage return
abbrev pub is_escaped : ℕ → Bool
is_escaped b = b == 92 || b == 10 || b == 13

-- a character as it is written: `\` as `\\`, a line feed as `\n`, a carriage return as `\r`
abbrev pub escape : ℕ → List ℕ
escape b =
    if b == 92 then 92 ∷ 92 ∷ []
    else if b == 10 then 92 ∷ 110 ∷ []
    else if b == 13 then 92 ∷ 114 ∷ []
    else b ∷ []

-- the name with its three characters escaped
unfoldable pub escaped : List ℕ → List ℕ
escaped name = flat_map escape name

-- the text spells the name: nothing spells nothing; in front of what spells a name, `\\` spells `\`, `\n` a line feed,
-- `\r` a carriage return, and any byte but `\` itself
pub data Spells : List ℕ → List ℕ → Type 0 where
  no_bytes : Spells [] []
  backslash : {text name : List ℕ} → Spells text name → Spells (92 ∷ 92 ∷ text) (92 ∷ name)
  line_feed : {text name : List ℕ} → Spells text name → Spells (92 ∷ 110 ∷ text) (10 ∷ name)
  carriage_return : {text name : List ℕ} → Spells text name → Spells (92 ∷ 114 ∷ text) (13 ∷ name)
  itself : {b : ℕ} {text name : List ℕ} → b ≢ 92 → Spells text name → Spells (b ∷ text) (b ∷ name)

-- whether `\`, `n` or `r`, which may follow a `\`
abbrev pub may_follow_backslash : ℕ → Bool
may_follow_backslash c = c == 92 || c == 110 || c == 114

-- whether, read from the left, a `\` is followed by none of `\`, `n` and `r`
unfoldable pub has_bad_escape : List ℕ → Bool
has_bad_escape [] = false
has_bad_escape (b ∷ []) = b == 92
has_bad_escape (b ∷ c ∷ text) =
    if b == 92 then not (may_follow_backslash c) || has_bad_escape text
    else has_bad_escape (c ∷ text)

-- what `\` and this character stand for
abbrev pub escape_meaning : ℕ → ℕ
escape_meaning c = if c == 110 then 10 else if c == 114 then 13 else 92

-- the text with its escapes taken back
unfoldable pub unescaped : List ℕ → List ℕ
unescaped [] = []
unescaped (b ∷ []) = b ∷ []
unescaped (b ∷ c ∷ text) =
    if b == 92 then escape_meaning c ∷ unescaped text
    else b ∷ unescaped (c ∷ text)

-- U+FFFD in UTF-8
abbrev pub replacement_character : List ℕ
replacement_character = 0xEF ∷ 0xBF ∷ 0xBD ∷ []

-- whether U+FFFD stands in the text
unfoldable pub holds_replacement_character : List ℕ → Bool
holds_replacement_character [] = false
holds_replacement_character (b ∷ text) = starts_with nat_eq (b ∷ text) replacement_character
    || holds_replacement_character text

-- whether NUL or U+FFFD stands in the text
unfoldable pub holds_bad_character : List ℕ → Bool
holds_bad_character text = list_any (λ b. b == 0) text || holds_replacement_character text
