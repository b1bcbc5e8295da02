-- A shelf in memory as its readers see it: the content of each name.
use Rattle.std.specs.Prelude.{◌≡◌, ℕ, ◌<◌, Bool, if◌then◌else◌, List, [], ◌∷◌, length, take, drop, IfSome, Option, None, Some, is_some, bytes_eq, string_bytes, slice_get}
use Rattle.std.specs.Option.{option_map_or}
use Rattle.b3_io.specs.declared.memory_shelf.MemoryShelf.{MemoryShelf}
use Rattle.b3_io.specs.declared.memory_shelf.StoredFile.{StoredFile}
use Rattle.b3_io.specs.Contents.{Contents}

-- the content of a name among files: that of the first file of this name
abbrev pub content_among : List StoredFile → List ℕ → Option (List ℕ)
content_among [] name = None
content_among (file ∷ files) name =
    if bytes_eq (string_bytes file.name) name then Some file.content.items else content_among files name

-- the content of each name on a shelf
abbrev pub shelf_contents : MemoryShelf → Contents
shelf_contents shelf = content_among shelf.files.items

-- whether a file is begun
abbrev pub shelf_is_begun : MemoryShelf → Bool
shelf_is_begun shelf = is_some shelf.begun

-- what is left of the file that is begun, and nothing where none is
abbrev pub shelf_left : MemoryShelf → List ℕ
shelf_left shelf =
    drop shelf.consumed
    (option_map_or (λ k. option_map_or (λ file. file.content.items) (slice_get shelf.files.items k) []) shelf.begun [])

-- a name has new content, and every other name what it had
abbrev pub Puts : Contents → Contents → List ℕ → List ℕ → Type 0
Puts old new name content = (asked : List ℕ) → new asked ≡ (if bytes_eq name asked then Some content else old asked)

-- the file with index k has the name, and none before it
pub record IsFirstAt (files : List StoredFile) (name : List ℕ) (k : ℕ) : Type 0 where
  pub within : k < length files
  pub before : content_among (take k files) name ≡ None
  pub named : IfSome (slice_get files k) (λ file. string_bytes file.name ≡ name)
