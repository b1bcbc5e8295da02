-- What a shelf of files reads from: whether a file is begun, what is left of it, and where it stands.
use Rattle.std.specs.Prelude.{ℕ, ◌+◌, ◌&&◌, Bool, true, false, if◌then◌else◌, List, [], drop}
use Rattle.b3_files.specs.Files.{rest_of}
use Rattle.b3_files.specs.declared.input.InputFile.{InputFile}
use Rattle.b3_files.specs.declared.source.Source.{Source}
use Rattle.b3_files.specs.declared.source.Source.TheVariants.{Nothing, Input, Reopened, Opened}

-- whether a file is begun
abbrev pub is_open : {T I P : Type 0} → Source T I P → Bool
is_open Nothing = false
is_open (Input input) = true
is_open (Reopened reopened) = true
is_open (Opened file) = true

-- whether it is the input
abbrev pub is_input : {T I P : Type 0} → Source T I P → Bool
is_input Nothing = false
is_input (Input input) = true
is_input (Reopened reopened) = true
is_input (Opened file) = false

-- whether it tells its bytes, where files, inputs and the plain files of inputs do or do not
abbrev pub source_tells : {T I P : Type 0} → Bool → Bool → Bool → Source T I P → Bool
source_tells file input input_file Nothing = true
source_tells file input input_file (Input stream) = input
source_tells file input input_file (Reopened reopened) = input && input_file
source_tells file input input_file (Opened opened) = file

-- what is left of the plain file that an input is, of which so many bytes were given
abbrev pub file_rest : {I P : Type 0} → (P → List ℕ) → InputFile I P → ℕ → List ℕ
file_rest content input_file consumed = drop (input_file.start + consumed) (content input_file.file)

-- what is left of the file that is begun, of which so many bytes were given
abbrev pub source_left : {T I P : Type 0} → (T → List ℕ) → (I → List ℕ) → (I → ℕ) → (P → List ℕ) → Source T I P → ℕ
    → List ℕ
source_left file input position input_file Nothing consumed = []
source_left file input position input_file (Input stream) consumed = rest_of input position stream
source_left file input position input_file (Reopened reopened) consumed = file_rest input_file reopened consumed
source_left file input position input_file (Opened opened) consumed = drop consumed (file opened)

-- the offset at which an open file stands; where none is, the one that is given
abbrev pub source_position : {T I P : Type 0} → (T → ℕ) → Source T I P → ℕ → ℕ
source_position position Nothing consumed = consumed
source_position position (Input input) consumed = consumed
source_position position (Reopened reopened) consumed = consumed
source_position position (Opened file) consumed = position file

-- what is left of the plain file that the input is, as the input has it: as long as both were read alike
abbrev pub input_rest : {I P : Type 0} → (I → List ℕ) → (I → ℕ) → (P → List ℕ) → InputFile I P → ℕ → List ℕ
input_rest content position file reopened consumed =
    if reopened.is_in_step then rest_of content position reopened.input else file_rest file reopened consumed

-- the same of what is begun; nothing of what is no such file
abbrev pub input_side : {T I P : Type 0} → (I → List ℕ) → (I → ℕ) → (P → List ℕ) → Source T I P → ℕ → List ℕ
input_side content position file Nothing consumed = []
input_side content position file (Input input) consumed = []
input_side content position file (Reopened reopened) consumed = input_rest content position file reopened consumed
input_side content position file (Opened opened) consumed = []

abbrev pub file_side : {T I P : Type 0} → (P → List ℕ) → Source T I P → ℕ → List ℕ
file_side file Nothing consumed = []
file_side file (Input input) consumed = []
file_side file (Reopened reopened) consumed = file_rest file reopened consumed
file_side file (Opened opened) consumed = []
