-- What a shelf tells of its files: the content of each name, where there is one; and the name of standard input.
use Rattle.std.specs.Prelude.{◌≡◌, ⊤, ℕ, Bool, false, List, [], ◌++◌, Option, None, Some, IsSomeAnd, codes}
use Rattle.b3_hash.specs.Hashers.{HasherState, StandsFor}
use Rattle.b3_io.specs.declared.shelf.NoContent.{NoContent}
use Rattle.b3_io.specs.declared.shelf.NoContent.TheVariants.{Missing, CannotRead}

-- the name that stands for standard input
abbrev pub input_name : List ℕ
input_name = codes "-"

-- the content of each name, or nothing for a name that is not there
abbrev pub Contents : Type 0
Contents = List ℕ → Option (List ℕ)

-- the name is there with this content, where contents are told
abbrev pub HasContent : Option Contents → List ℕ → List ℕ → Type 0
HasContent None name content = ⊤
HasContent (Some contents) name content = contents name ≡ Some content

-- the hasher stands for a content of the name
pub record StandsForContent (told : Option Contents) (name : List ℕ) (hasher : HasherState) : Type 0 where
  pub content : List ℕ
  pub has : HasContent told name content
  pub stands : StandsFor hasher content

-- the name is not there, where contents are told
abbrev pub IsMissing : Option Contents → List ℕ → Type 0
IsMissing None name = ⊤
IsMissing (Some contents) name = contents name ≡ None

-- why a name gives no content: it is not there, or the shelf may fail elsewhere too
abbrev pub LacksContent : Option Contents → Bool → List ℕ → NoContent → Type 0
LacksContent told sure name Missing = IsMissing told name
LacksContent told sure name CannotRead = sure ≡ false

-- the name is there with a content of which a fact holds, where contents are told
abbrev pub ContentHas : Option Contents → List ℕ → (List ℕ → Type 0) → Type 0
ContentHas None name P = ⊤
ContentHas (Some contents) name P = IsSomeAnd (contents name) P

-- of what was left these bytes are given, and none only where nothing was left
pub record Gives (before given after : List ℕ) : Type 0 where
  pub parts : before ≡ given ++ after
  pub end : given ≡ [] → before ≡ []
