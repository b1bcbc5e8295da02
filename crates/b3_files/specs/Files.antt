-- What a shelf of files tells.
use Rattle.std.specs.Prelude.{ℕ, Bool, true, false, if◌then◌else◌, List, drop, Option, None, Some, bytes_eq}
use Rattle.b3_io.specs.Contents.{Contents, input_name}

-- what is left of a stream
abbrev pub rest_of : {T : Type 0} → (T → List ℕ) → (T → ℕ) → T → List ℕ
rest_of content position stream = drop (position stream) (content stream)

-- contents, where they are told
abbrev pub told_if : Bool → Contents → Option Contents
told_if true contents = Some contents
told_if false contents = None

-- the contents of a disk, with an input under its name
abbrev pub contents_with : Contents → List ℕ → Contents
contents_with contents input name = if bytes_eq name input_name then Some input else contents name
