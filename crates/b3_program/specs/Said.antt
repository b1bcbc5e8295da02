-- A text of the program's own, on a sink.
use Rattle.std.specs.Prelude.{◌≡◌, ℕ, ◌+◌, Bool, true, false, List, [], ◌∷◌, ◌++◌, if◌then◌else◌}
use Rattle.std.specs.Io.KnownBytes.{Appends}
use Rattle.b3_io.specs.Runs.{SinkState}
use Rattle.b3_io.specs.Sinks.{GainsBeginning}

-- a text and a line feed
abbrev pub line_of : List ℕ → List ℕ
line_of text = text ++ 10 ∷ []

-- the sink took all of the text, or it failed and took a beginning of it
pub record IsSaid (before after : SinkState) (text : List ℕ) (whole : Bool) : Type 0 where
  pub count : after.failures ≡ before.failures + (if whole then 0 else 1)
  pub all : whole ≡ true → Appends before.held after.held text
  pub part : whole ≡ false → GainsBeginning before.held after.held text

-- a line of this text is said, or a beginning of it
pub record SaysLine (text : List ℕ) (before after : SinkState) : Type 0 where
  pub whole : Bool
  pub said : IsSaid before after (line_of text) whole
