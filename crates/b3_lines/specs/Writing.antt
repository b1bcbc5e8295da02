-- Check lines as they are written.
use Rattle.std.specs.Prelude.{Bool, if◌then◌else◌, ℕ, List, [], ◌∷◌, ◌++◌, codes}
use Rattle.std.specs.List.{list_any}
use Rattle.hex.specs.Hex.{encode_lower}
use Rattle.b3_lines.specs.Names.{is_escaped, escaped}

-- whether a name is marked: it holds `\`, a line feed or a carriage return
abbrev pub is_marked : List ℕ → Bool
is_marked name = list_any is_escaped name

-- the mark of a name that needs one
abbrev pub mark : List ℕ → List ℕ
mark name = if is_marked name then 92 ∷ [] else []

-- the shown form of a name
unfoldable pub shown : List ℕ → List ℕ
shown name = mark name ++ escaped name

-- two spaces
abbrev pub spaces : List ℕ
spaces = 32 ∷ 32 ∷ []

-- a plain line without its line feed: the mark, the digits in lower case, two spaces, the escaped name
unfoldable pub plain_text : List ℕ → List ℕ → List ℕ
plain_text digest name = mark name ++ encode_lower digest ++ spaces ++ escaped name

-- a plain line
abbrev pub plain : List ℕ → List ℕ → List ℕ
plain digest name = plain_text digest name ++ 10 ∷ []

-- what a tagged line begins with, after its mark
abbrev pub tag_prefix : List ℕ
tag_prefix = codes "BLAKE3 ("

-- what stands between the name and the digits of a tagged line
abbrev pub tag_separator : List ℕ
tag_separator = codes ") = "

-- a tagged line without its line feed: the mark, `BLAKE3 (`, the escaped name, `) = `, the digits in lower case
unfoldable pub tagged_text : List ℕ → List ℕ → List ℕ
tagged_text digest name = mark name ++ tag_prefix ++ escaped name ++ tag_separator ++ encode_lower digest

-- a tagged line
abbrev pub tagged : List ℕ → List ℕ → List ℕ
tagged digest name = tagged_text digest name ++ 10 ∷ []
