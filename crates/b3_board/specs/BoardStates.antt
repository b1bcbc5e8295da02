-- A board as contracts see it: its state, of what is open and what was deposited, and the six laws that each board
-- keeps.
use Rattle.std.specs.Prelude.{◌≡◌, ◌↔◌, ℕ, ◌+◌, ◌<◌, ◌≤◌, List, [], ◌∷◌, ◌++◌, map, All, Contains}
use Rattle.b3_core.specs.Subtrees.{AreSiblings, IsSubtree}
use Rattle.b3_core.specs.Tree.{chunks}
use Rattle.b3_core.specs.declared.modes.Mode.{Mode}
use Rattle.b3_core.specs.declared.nodes.Node.{Node}
use Rattle.b3_core.specs.declared.spans.Span.{Span}
use Rattle.b3_board.specs.Plans.{DoneState, PlanState}
use Rattle.b3_board.specs.Spans.{IsNodeOf, IsSubtreeSpan, KnownInput, chunks_in, chunk_in, in_memory, part, coverage, top_of}

-- a deposited subtree, with its node
pub record Piece : Type 0 where
  pub span : Span
  pub node : Node

-- a board: what is known of its input (the bytes too, where they lie in memory), its mode and the number of its first
-- chunk; the open spans and the pieces, in ascending order; and the book, the number of deposited chunks
pub record BoardState : Type 0 where
  pub input : KnownInput
  pub mode : Mode
  pub first : ℕ
  pub open_spans : List Span
  pub pieces : List Piece
  pub book : ℕ

-- the number of chunks of the input
abbrev pub size : BoardState → ℕ
size board = chunks board.input.len

-- the spans of the pieces
abbrev pub piece_spans : BoardState → List Span
piece_spans board = map (λ p. p.span) board.pieces

-- the open spans and those of the pieces
abbrev pub all_spans : BoardState → List Span
all_spans board = board.open_spans ++ piece_spans board

-- the six laws of a board
pub record IsLawful (board : BoardState) : Type 0 where
  -- each open span and each piece is a subtree
  pub subtrees : All (IsSubtreeSpan (size board)) (all_spans board)
  -- each chunk stands in one of them, and in no second
  pub once : (k : ℕ) → k < size board → coverage k (all_spans board) ≡ 1
  -- each piece has the node of its span: its top in bytes that the input may have, which in memory are its own
  pub nodes : All (λ p. IsNodeOf board.input board.mode board.first p.span p.node) board.pieces
  -- no two pieces are siblings
  pub apart : (p q : Piece) → Contains board.pieces p → Contains board.pieces q
      → ¬ AreSiblings (size board) p.span q.span
  -- the chunks of the pieces add up to the book
  pub booked : chunks_in (piece_spans board) ≡ board.book
  -- and with those of the open spans to all chunks
  pub whole : board.book + chunks_in board.open_spans ≡ size board

-- each piece has the top of these bytes' chunks in its span
abbrev pub HasTopsOf : List ℕ → BoardState → Type 0
HasTopsOf bytes board = All (λ p. p.node ≡ top_of bytes board.mode board.first p.span) board.pieces

-- the spans are in ascending order
pub data IsAscending : List Span → Type 0 where
  no_spans : IsAscending []
  ahead : {s : Span} {spans : List Span} → All (λ t. s.first < t.first) spans → IsAscending spans
      → IsAscending (s ∷ spans)

-- the board over what is known of an input, cut into these spans, which are all open
abbrev pub begun : KnownInput → Mode → ℕ → List Span → BoardState
begun input mode first spans = record {
  input = input;
  mode = mode;
  first = first;
  open_spans = spans;
  pieces = [];
  book = 0;
}

-- the board of a plan, with all spans open
abbrev pub opened : PlanState → BoardState
opened plan = begun (in_memory plan.input) plan.mode plan.first plan.spans

-- the board is over this input, mode and first chunk
pub record IsOver (input : KnownInput) (mode : Mode) (first : ℕ) (board : BoardState) : Type 0 where
  pub input_is : board.input ≡ input
  pub mode_is : board.mode ≡ mode
  pub first_is : board.first ≡ first

-- the open spans lose s
abbrev pub LosesSpan : List Span → Span → List Span → Type 0
LosesSpan spans s rest = (before : List Span) × (after : List Span) × (spans ≡ before ++ s ∷ after)
    × (rest ≡ before ++ after)

-- span s was deposited: it is no longer open, its chunks join those of the pieces, and the book rises by
-- their number; input, mode and first chunk stay
pub record IsDeposit (old : BoardState) (s : Span) (new : BoardState) : Type 0 where
  pub input_stays : new.input ≡ old.input
  pub mode_stays : new.mode ≡ old.mode
  pub first_stays : new.first ≡ old.first
  pub opens : LosesSpan old.open_spans s new.open_spans
  pub joins : (k : ℕ) → coverage k (piece_spans new) ≡ coverage k (piece_spans old) + chunk_in k s.first s.count
  pub books : new.book ≡ old.book + s.count

-- the board's input lies in memory, and what is done was done with its bytes in the span, in its mode and at its first
-- chunk
pub record IsOwn (board : BoardState) (done : DoneState) : Type 0 where
  pub all : List ℕ
  pub input_is : board.input ≡ in_memory all
  pub bytes_are : done.bytes ≡ part all done.span.first done.span.count
  pub mode_is : done.mode ≡ board.mode
  pub first_is : done.first ≡ board.first

-- each chunk of the span was deposited
abbrev pub IsDeposited : BoardState → ℕ → ℕ → Type 0
IsDeposited board a c = (k : ℕ) → a ≤ k → k < a + c → coverage k (piece_spans board) ≡ 1

-- a greatest subtree of deposited chunks: no other that has all its chunks is deposited
pub record IsGreatest (board : BoardState) (s : Span) : Type 0 where
  pub subtree : IsSubtreeSpan (size board) s
  pub deposited : IsDeposited board s.first s.count
  pub greatest : (a c : ℕ) → IsSubtree (size board) a c → IsDeposited board a c → a ≤ s.first
      → s.first + s.count ≤ a + c
      → (a ≡ s.first) × (c ≡ s.count)

-- the pieces are the greatest subtrees of deposited chunks
abbrev pub PiecesAreGreatest : BoardState → Type 0
PiecesAreGreatest board = (s : Span) → Contains (piece_spans board) s ↔ IsGreatest board s
