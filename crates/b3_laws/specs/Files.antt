-- Files in memory.
use Rattle.std.specs.Prelude.{◌≡◌, ◌≢◌, ℕ, false, if◌then◌else◌, List, [], ◌∷◌, All, Option, None, Some, bytes_eq, string_bytes}
use Rattle.b3_lines.specs.Names.{holds_bad_character}
use Rattle.b3_check.specs.Laws.{File as KnownFile}
use Rattle.b3_laws.specs.declared.files.File.{File}

-- a file as its name and its content
abbrev pub known : File → KnownFile
known file = record { name = string_bytes file.name; content = file.content.items }

-- a line can show the name: it is not empty, and holds neither NUL nor U+FFFD
pub record CanBeShown (file : File) : Type 0 where
  pub is_named : string_bytes file.name ≢ []
  pub is_lawful : holds_bad_character (string_bytes file.name) ≡ false

-- the content of a name: that of the first file of this name
abbrev pub content_of : List File → List ℕ → Option (List ℕ)
content_of [] name = None
content_of (file ∷ files) name =
    if bytes_eq (string_bytes file.name) name then Some file.content.items else content_of files name

-- no other content goes by the file's name
abbrev pub HasItsName : List File → File → Type 0
HasItsName files file = content_of files (string_bytes file.name) ≡ Some file.content.items

-- a line can show each name, and each name has one content
pub record AreNamed (files : List File) : Type 0 where
  pub shown : All CanBeShown files
  pub one_content : All (HasItsName files) files
