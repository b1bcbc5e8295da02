-- The entries that a board keeps: one for each span of its cutting, whose places never change. Where two
-- siblings are joined, the left one's entry takes the span of both, and the right one's is left empty.
use Rattle.std.specs.Prelude.{◌≡◌, ◌≢◌, ℕ, ◌+◌, ◌<◌, ◌≤◌, nat_eq, Bool, true, false, List, map, length, sum_by, Option, Some, None, slice_index_or, slice_set, filter_map}
use Rattle.b3_core.specs.Nodes.{chaining}
use Rattle.b3_core.specs.Subtrees.{AreChildren}
use Rattle.b3_core.specs.Tree.{chunks}
use Rattle.b3_core.specs.declared.modes.Mode.{Mode}
use Rattle.b3_core.specs.declared.nodes.Node.{Node}
use Rattle.b3_core.specs.declared.spans.Span.{Span}
use Rattle.b3_board.specs.BoardStates.{Piece}
use Rattle.b3_board.specs.Spans.{IsNodeOf, IsSubtreeSpan, KnownInput, chunk_in}
use Rattle.b3_board.specs.declared.entries.Entry.{Entry}
use Rattle.b3_board.specs.declared.entries.KeptNode.{KeptNode}
use Rattle.b3_board.specs.declared.entries.State.{State}
use Rattle.b3_board.specs.declared.entries.State.TheVariants.{Open, Kept, Joined}

-- an entry of no span
abbrev pub nothing : Entry
nothing = record { span = record { first = 0; count = 0 }; state = Joined }

-- entry i; past the end the entry of no span
abbrev pub at : List Entry → ℕ → Entry
at es i = slice_index_or es i nothing

-- the entries are in the order of their first chunks
abbrev pub IsInOrder : List Entry → Type 0
IsInOrder es = (i j : ℕ) → i < j → j < length es → (at es i).span.first < (at es j).span.first

-- the entry's span has chunk k: 1, else 0
abbrev pub has_chunk : ℕ → Entry → ℕ
has_chunk k e = chunk_in k e.span.first e.span.count

abbrev pub is_kept : State → Bool
is_kept Open = false
is_kept (Kept kept) = true
is_kept Joined = false

abbrev pub is_joined : State → Bool
is_joined Joined = true
is_joined Open = false
is_joined (Kept kept) = false

abbrev pub if_open : State → ℕ → ℕ
if_open Open x = x
if_open (Kept kept) x = 0
if_open Joined x = 0

abbrev pub if_kept : State → ℕ → ℕ
if_kept Open x = 0
if_kept (Kept kept) x = x
if_kept Joined x = 0

-- of the pieces alone: whether the span has chunk k, and how many chunks it has
abbrev pub kept_chunk : ℕ → Entry → ℕ
kept_chunk k e = if_kept e.state (chunk_in k e.span.first e.span.count)

abbrev pub kept_count : Entry → ℕ
kept_count e = if_kept e.state e.span.count

-- the number of chunks of an open span
abbrev pub open_count : Entry → ℕ
open_count e = if_open e.state e.span.count

-- the span, where it is open
abbrev pub some_open : State → Span → Option Span
some_open Open s = Some s
some_open (Kept kept) s = None
some_open Joined s = None

abbrev pub open_span : Entry → Option Span
open_span e = some_open e.state e.span

-- the piece, where the entry keeps one
abbrev pub some_piece : State → Span → Option Piece
some_piece Open s = None
some_piece (Kept kept) s = Some (record { span = s; node = kept.node })
some_piece Joined s = None

abbrev pub piece_of : Entry → Option Piece
piece_of e = some_piece e.state e.span

-- the open spans, and the pieces
abbrev pub open_spans : List Entry → List Span
open_spans es = filter_map open_span es

abbrev pub pieces : List Entry → List Piece
pieces es = filter_map piece_of es

-- a node with its chaining value
abbrev pub kept_node : Node → KeptNode
kept_node node = record { node = node; chaining_value = chaining node }

-- what is done of a span: the node is that of the span, with its chaining value
pub record KeepsNode (input : KnownInput) (mode : Mode) (first : ℕ) (span : Span) (node : Node)
    (chaining_value : List ℕ) : Type 0 where
  pub node_is : IsNodeOf input mode first span node
  pub chaining_is : chaining_value ≡ chaining node

-- what is kept of a span is the top of the input's chunks in it, with its chaining value
abbrev pub KeepsTop : KnownInput → Mode → ℕ → State → Span → Type 0
KeepsTop input mode first state s = (kept : KeptNode) → state ≡ Kept kept
    → IsNodeOf input mode first s kept.node × (kept.chaining_value ≡ chaining kept.node)

-- a joined span has no chunk left, and any other has one
abbrev pub FitsState : State → ℕ → Type 0
FitsState state c = is_joined state ≡ nat_eq c 0

-- all of a lawful board but that no two pieces are siblings
pub record Sound (input : KnownInput) (mode : Mode) (first : ℕ) (es : List Entry) : Type 0 where
  pub in_order : IsInOrder es
  pub fits : (i : ℕ) → FitsState (at es i).state (at es i).span.count
  pub subtrees : (i : ℕ) → 0 < (at es i).span.count → IsSubtreeSpan (chunks input.len) (at es i).span
  pub once : (k : ℕ) → k < chunks input.len → sum_by (has_chunk k) es ≡ 1
  pub tops : (i : ℕ) → KeepsTop input mode first (at es i).state (at es i).span
  pub all : sum_by kept_count es + sum_by open_count es ≡ chunks input.len

-- the entries are left and right child of one subtree
abbrev pub AreChildEntries : ℕ → Entry → Entry → Type 0
AreChildEntries n l r = AreChildren n l.span.first l.span.count r.span.first r.span.count

-- no two pieces are siblings, but for the one at `free`
abbrev pub ApartBut : ℕ → ℕ → List Entry → Type 0
ApartBut n free es = (i j : ℕ) → i ≢ free → j ≢ free → is_kept (at es i).state ≡ true → is_kept (at es j).state ≡ true
    → ¬ AreChildEntries n (at es i) (at es j)

-- no two pieces are siblings
abbrev pub Apart : ℕ → List Entry → Type 0
Apart n es = (i j : ℕ) → is_kept (at es i).state ≡ true → is_kept (at es j).state ≡ true
    → ¬ AreChildEntries n (at es i) (at es j)

-- the entries of a lawful board
pub record Lawful (input : KnownInput) (mode : Mode) (first : ℕ) (es : List Entry) : Type 0 where
  pub sound : Sound input mode first es
  pub apart : Apart (chunks input.len) es

-- the piece at the left with its right sibling's chunks and the node of both
abbrev pub widened : Entry → Entry → Node → Entry
widened l r node = record {
  span = record { first = l.span.first; count = l.span.count + r.span.count };
  state = Kept (kept_node node);
}

-- a piece that was joined to its left sibling
abbrev pub emptied : Entry → Entry
emptied r = record { span = record { first = r.span.first; count = 0 }; state = Joined }

-- the pieces at l and r, joined
abbrev pub joined : List Entry → ℕ → ℕ → Node → List Entry
joined es l r node = slice_set (slice_set es r (emptied (at es r))) l (widened (at es l) (at es r) node)

-- the open span at i, closed with what is kept of it
abbrev pub closed : List Entry → ℕ → KeptNode → List Entry
closed es i kept = slice_set es i (record { span = (at es i).span; state = Kept kept })

-- the piece at `here` and its sibling became the piece at `place`
pub record IsJoined (input : KnownInput) (mode : Mode) (first : ℕ) (es : List Entry) (here : ℕ)
    (fs : List Entry) (place : ℕ) : Type 0 where
  pub inside : place < length fs
  pub kept : is_kept (at fs place).state ≡ true
  pub sound : Sound input mode first fs
  pub apart : ApartBut (chunks input.len) place fs
  pub same_chunks : (k : ℕ) → sum_by (kept_chunk k) fs ≡ sum_by (kept_chunk k) es
  pub same_count : sum_by kept_count fs ≡ sum_by kept_count es
  pub same_open : map open_span fs ≡ map open_span es
  pub grows : (at es here).span.count < (at fs place).span.count

-- a span of a cutting, open
abbrev pub fresh : Span → Entry
fresh s = record { span = s; state = Open }

-- no span is open
abbrev pub NoneOpen : List Entry → Type 0
NoneOpen es = (i : ℕ) → open_span (at es i) ≡ None

-- what a board keeps: the entries are lawful, the chunks of the pieces add up to the book, no open span has more chunks
-- than the grain, and a span whose bytes could not be had shows that they are not sure
pub record KeepsBoard (input : KnownInput) (mode : Mode) (first grain : ℕ) (sure : Type 0)
    (es : List Entry) (book : ℕ) (missed : Bool) : Type 0 where
  pub lawful : Lawful input mode first es
  pub booked : sum_by kept_count es ≡ book
  pub few : (i : ℕ) → open_count (at es i) ≤ grain
  pub not_sure : missed ≡ true → ¬ sure
