-- What files and streams give, where they tell their bytes.
use Rattle.std.specs.Prelude.{⊤, ◌≡◌, ◌↔◌, ◌⊎◌, ℕ, ◌+◌, List, drop, take, Result, Ok, Err, IfOk}
use Rattle.std.specs.declared.io.ErrorKind.{ErrorKind}
use Rattle.std.specs.declared.io.ErrorKind.TheVariants.{NotFound, NotADirectory}
use Rattle.b3_files.specs.declared.disk.FileKind.{FileKind}
use Rattle.b3_files.specs.declared.disk.FileKind.TheVariants.{Plain, Folder, Other}
use Rattle.b3_io.specs.declared.shelf.NoContent.{NoContent}
use Rattle.b3_io.specs.declared.shelf.NoContent.TheVariants.{Missing}
use Rattle.b3_io.specs.Contents.{Gives}

-- how many bytes a read gave
abbrev pub count_of : {E : Type 0} → Result ℕ E → ℕ
count_of (Ok n) = n
count_of (Err error) = 0

-- a read gave bytes of a content from an offset on, and none only at the end
abbrev pub ReadsAt : {E : Type 0} → List ℕ → ℕ → Result ℕ E → List ℕ → Type 0
ReadsAt content offset result buffer =
    IfOk result (λ n. Gives (drop offset content) (take n buffer) (drop (offset + n) content))

-- no such name is there, or what should be a folder on its way is none
abbrev pub IsOfMissing : ErrorKind → Type 0
IsOfMissing kind = (kind ≡ NotFound) ⊎ (kind ≡ NotADirectory)

-- a name is refused for one of these errors: as missing just where that error says so
pub record IsRefusedBy (fails_by : ErrorKind → Type 0) (why : NoContent) : Type 0 where
  pub kind : ErrorKind
  pub may : fails_by kind
  pub missing : (why ≡ Missing) ↔ IsOfMissing kind

-- a plain file tells this length
abbrev pub TellsLen : FileKind → ℕ → Type 0
TellsLen (Plain told) len = told ≡ len
TellsLen Folder len = ⊤
TellsLen Other len = ⊤
