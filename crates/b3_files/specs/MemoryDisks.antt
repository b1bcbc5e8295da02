-- A disk in memory as its readers see it: the content of each name.
use Rattle.std.specs.Prelude.{◌≡◌, ℕ, if◌then◌else◌, List, [], ◌∷◌, Option, None, Some, bytes_eq}
use Rattle.std.specs.declared.io.ErrorKind.{ErrorKind}
use Rattle.std.specs.declared.io.ErrorKind.TheVariants.{NotFound}
use Rattle.b3_files.specs.declared.memory_disk.NamedFile.{NamedFile}

-- the content of a name among files: that of the first file of this name
abbrev pub content_among : List NamedFile → List ℕ → Option (List ℕ)
content_among [] name = None
content_among (file ∷ files) name =
    if bytes_eq file.name.now name then Some file.content.now else content_among files name

-- no file of this name is among these, and the error says so
abbrev pub IsNotAmong : List NamedFile → List ℕ → ErrorKind → Type 0
IsNotAmong files name kind = (content_among files name ≡ None) × (kind ≡ NotFound)
