-- The spans that the workers of a run hash: of whose input they are, and what is made of one.
use Rattle.std.specs.Prelude.{◌≡◌, ℕ, Option, Some, None, Result, Ok, Err}
use Rattle.b3_core.specs.declared.modes.Mode.{Mode}
use Rattle.b3_core.specs.declared.spans.Span.{Span}
use Rattle.b3_board.specs.BoardStates.{Piece}
use Rattle.b3_board.specs.Spans.{KnownInput}

-- an input, its mode and its first chunk are the same as those of another, and it is sure where that is
pub record IsSameInput (own_input : KnownInput) (own_mode : Mode) (own_first : ℕ) (own_sure : Type 0)
    (input : KnownInput) (mode : Mode) (first : ℕ) (sure : Type 0) : Type 0 where
  pub input_is : input ≡ own_input
  pub mode_is : mode ≡ own_mode
  pub first_is : first ≡ own_first
  pub sure_is : own_sure → sure

-- the span whose node is made, or whose bytes could not be had
abbrev pub span_of : Result Piece Span → Span
span_of (Ok piece) = piece.span
span_of (Err span) = span

-- the node is made
abbrev pub IsMade : Option (Result Piece Span) → Type 0
IsMade None = ⊥
IsMade (Some (Ok piece)) = Unit {0}
IsMade (Some (Err span)) = ⊥
