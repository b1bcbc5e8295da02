-- The state of a lawful board is lawful.
use Rattle.std.proofs.Common.{inl, inr, ◌≡◌, ℕ, ◌+◌, ◌<◌, Bool, true, false, List, ◌++◌, length, map, Option, Some, None, arith, refl, sym, subst, ap, ◌∙◌}
use Rattle.std.proofs.lemmas.Bool.{cases_lt, eq-eqb, eqb-true, false≢true}
use Rattle.std.proofs.lemmas.List.Elements.{All-append, All-weaker}
use Rattle.std.proofs.lemmas.List.Sums.{sum_by-append}
use Rattle.std.specs.List.{All, Contains, filter_map, sum_by}
use Rattle.std.specs.Option.{option_map}
use Rattle.b3_core.specs.Subtrees.{AreSiblings}
use Rattle.b3_core.specs.Tree.{chunks}
use Rattle.b3_core.specs.declared.modes.Mode.{Mode}
use Rattle.b3_core.specs.declared.nodes.Node.{Node}
use Rattle.b3_core.specs.declared.spans.Span.{Span}
use Rattle.b3_board.specs.Entries.{FitsState, KeepsBoard, Lawful, at, has_chunk, if_kept, if_open, is_joined, is_kept, kept_chunk, kept_count, nothing, open_span, open_spans, piece_of, pieces, some_open, some_piece}
use Rattle.b3_board.specs.BoardStates.{HasTopsOf, IsLawful, BoardState, Piece}
use Rattle.b3_board.specs.Spans.{IsNodeOf, IsSubtreeSpan, KnownInput, chunk_in, in_memory, coverage, top_of}
use Rattle.b3_board.specs.declared.entries.Entry.{Entry}
use Rattle.b3_board.specs.declared.entries.KeptNode.{KeptNode}
use Rattle.b3_board.specs.declared.entries.State.{State}
use Rattle.b3_board.specs.declared.entries.State.TheVariants.{Open, Kept, Joined}
use Rattle.b3_board.proofs.Filtered.{All-filter_map, map-filter_map, or_zero, place-from_Contains, sum_by-both, sum_by-filter_map}
use Rattle.b3_board.proofs.KnownNodes.{IsNodeOf-in_memory}
use Rattle.b3_board.proofs.Partners.{kept_some}
use Rattle.b3_board.proofs.Steps.{has_none}

-- the span of a piece
abbrev pub some_kept : State → Span → Option Span
some_kept Open s = None
some_kept (Kept kept) s = Some s
some_kept Joined s = None

abbrev pub kept_span : Entry → Option Span
kept_span e = some_kept e.state e.span

span_or : Option Span → Span → Span
span_or None d = d
span_or (Some s) d = s

some_is : (s t : Span) → Some s ≡ Some t → s ≡ t
unfolding span_or
some_is s t e = ap (λ (o : Option Span). span_or o s) e

is_there : {Y : Type 0} → Option Y → Bool
is_there None = false
is_there (Some y) = true

none_is : {Y : Type 0} (y : Y) → None ≡ Some y → ⊥
unfolding is_there
none_is y e = false≢true (ap is_there e)

piece_or : Option Piece → Piece → Piece
piece_or None d = d
piece_or (Some p) d = p

piece_is : (p q : Piece) → Some p ≡ Some q → p ≡ q
unfolding piece_or
piece_is p q e = ap (λ (o : Option Piece). piece_or o p) e

-- what an open span and a piece say of the entry
pub open_is : (state : State) (s t : Span) → some_open state s ≡ Some t → (state ≡ Open) × (s ≡ t)
open_is Joined s t e = absurd (none_is t e)
open_is Open s t e = (refl, some_is s t e)
open_is (Kept kept) s t e = absurd (none_is t e)

pub kept_is_span : (state : State) (s t : Span) → some_kept state s ≡ Some t → (is_kept state ≡ true) × (s ≡ t)
kept_is_span Joined s t e = absurd (none_is t e)
kept_is_span Open s t e = absurd (none_is t e)
kept_is_span (Kept kept) s t e = (refl, some_is s t e)

pub piece_is_kept : (state : State) (s : Span) (p : Piece) → some_piece state s ≡ Some p
    → (kept : KeptNode) × (state ≡ Kept kept) × (s ≡ p.span) × (kept.node ≡ p.node)
piece_is_kept Joined s p e = absurd (none_is p e)
piece_is_kept Open s p e = absurd (none_is p e)
piece_is_kept (Kept kept) s p e =
    let same = piece_is (record { span = s; node = kept.node }) p e in
    (kept, refl, ap (λ (q : Piece). q.span) same, ap (λ (q : Piece). q.node) same)

open_some : (state : State) (c : ℕ) → state ≡ Open → FitsState state c → 0 < c
open_some state c is fits =
    elim (cases_lt 0 c) [
      | inl some ↦ some
      | inr none ↦
          let zero_count : c ≡ 0 = omega arith in
          absurd (false≢true (sym (ap is_joined is) ∙ fits ∙ eq-eqb c 0 zero_count))
    ]

-- the span of an entry counts once, as open, as a piece or not at all
shared : (g : Span → ℕ) (state : State) (s : Span) → (is_joined state ≡ true → g s ≡ 0)
    → if_open state (g s) + if_kept state (g s) ≡ g s
shared g Joined s none = sym (none refl)
shared g Open s none = omega arith
shared g (Kept kept) s none = omega arith

or_zero-open : (g : Span → ℕ) (state : State) (s : Span) → or_zero g (some_open state s) ≡ if_open state (g s)
or_zero-open g Joined s = refl
or_zero-open g Open s = refl
or_zero-open g (Kept kept) s = refl

or_zero-kept : (g : Span → ℕ) (state : State) (s : Span) → or_zero g (some_kept state s) ≡ if_kept state (g s)
or_zero-kept g Joined s = refl
or_zero-kept g Open s = refl
or_zero-kept g (Kept kept) s = refl

span_of_piece : (state : State) (s : Span) → option_map (λ (p : Piece). p.span) (some_piece state s) ≡ some_kept state s
span_of_piece Joined s = refl
span_of_piece Open s = refl
span_of_piece (Kept kept) s = refl

-- the spans of the pieces, from the entries
pub kept_spans : (es : List Entry) → map (λ (p : Piece). p.span) (pieces es) ≡ filter_map kept_span es
kept_spans es = map-filter_map (λ (p : Piece). p.span) piece_of kept_span (λ e. span_of_piece e.state e.span) es

pub sum_open : (g : Span → ℕ) (es : List Entry) → sum_by g (open_spans es) ≡ sum_by (λ e. if_open e.state (g e.span)) es
sum_open g es = sum_by-filter_map g open_span (λ e. if_open e.state (g e.span)) (λ e. or_zero-open g e.state e.span) es

pub sum_kept : (g : Span → ℕ) (es : List Entry)
    → sum_by g (map (λ (p : Piece). p.span) (pieces es)) ≡ sum_by (λ e. if_kept e.state (g e.span)) es
sum_kept g es =
    ap (sum_by g) (kept_spans es)
    ∙ sum_by-filter_map g kept_span (λ e. if_kept e.state (g e.span)) (λ e. or_zero-kept g e.state e.span) es

-- the state of a board with these entries
abbrev pub state_of : KnownInput → Mode → ℕ → List Entry → ℕ → BoardState
state_of input mode first es book = record {
  input = input;
  mode = mode;
  first = first;
  open_spans = open_spans es;
  pieces = pieces es;
  book = book;
}

pub times_kept : (k : ℕ) (es : List Entry)
    → coverage k (map (λ (p : Piece). p.span) (pieces es)) ≡ sum_by (kept_chunk k) es
times_kept k es = sum_kept (λ (s : Span). chunk_in k s.first s.count) es

module _ (input : KnownInput) (mode : Mode) (first : ℕ) (es : List Entry) (lawful : Lawful input mode first es) where
  abbrev n : ℕ
  n = chunks input.len

  subtree_open : (i : ℕ) (s : Span) → i < length es → open_span (at es i) ≡ Some s → IsSubtreeSpan n s
  subtree_open i s short is =
      let (state_is, span_is) = open_is (at es i).state (at es i).span s is in
      let some = open_some (at es i).state (at es i).span.count state_is (lawful.sound.fits i) in
      subst (IsSubtreeSpan n) span_is (lawful.sound.subtrees i some)

  subtree_kept : (i : ℕ) (s : Span) → i < length es → kept_span (at es i) ≡ Some s → IsSubtreeSpan n s
  subtree_kept i s short is =
      let (kept, span_is) = kept_is_span (at es i).state (at es i).span s is in
      let some = kept_some (at es i).state (at es i).span.count kept (lawful.sound.fits i) in
      subst (IsSubtreeSpan n) span_is (lawful.sound.subtrees i some)

  subtrees : All (IsSubtreeSpan n) (open_spans es ++ map (λ (p : Piece). p.span) (pieces es))
  subtrees =
      let kept_ones = All-filter_map kept_span (IsSubtreeSpan n) es nothing subtree_kept in
      All-append (IsSubtreeSpan n) (open_spans es) (map (λ (p : Piece). p.span) (pieces es))
      (All-filter_map open_span (IsSubtreeSpan n) es nothing subtree_open)
      (subst (All (IsSubtreeSpan n)) (sym (kept_spans es)) kept_ones)

  joined_has_none : (k i : ℕ) → is_joined (at es i).state ≡ true → has_chunk k (at es i) ≡ 0
  joined_has_none k i gone =
      let none : (at es i).span.count ≡ 0 = eqb-true (at es i).span.count 0 (sym (lawful.sound.fits i) ∙ gone) in
      ap (chunk_in k (at es i).span.first) none ∙ has_none k (at es i).span.first

  once : (k : ℕ) → k < n → coverage k (open_spans es ++ map (λ (p : Piece). p.span) (pieces es)) ≡ 1
  once k lt =
      let g : Span → ℕ = λ s. chunk_in k s.first s.count in
      let both = sum_by-both (λ (e : Entry). if_open e.state (g e.span)) (λ (e : Entry). if_kept e.state (g e.span))
      (has_chunk k) es nothing (λ i short. shared g (at es i).state (at es i).span (joined_has_none k i)) in
      sum_by-append g (open_spans es) (map (λ (p : Piece). p.span) (pieces es))
      ∙ omega (arith, sum_open g es, sum_kept g es, both, lawful.sound.once k lt)

  node_at : (i : ℕ) (p : Piece) → i < length es → piece_of (at es i) ≡ Some p → IsNodeOf input mode first p.span p.node
  node_at i p short is =
      let (kept, state_is, span_is, node_is) = piece_is_kept (at es i).state (at es i).span p is in
      let top = (lawful.sound.tops i kept state_is).0 in
      let moved = subst (λ (s : Span). IsNodeOf input mode first s kept.node) span_is top in
      subst (λ (x : Node). IsNodeOf input mode first p.span x) node_is moved

  nodes : All (λ p. IsNodeOf input mode first p.span p.node) (pieces es)
  nodes = All-filter_map piece_of (λ (p : Piece). IsNodeOf input mode first p.span p.node) es nothing node_at

  apart : (p q : Piece) → Contains (pieces es) p → Contains (pieces es) q → ¬ AreSiblings n p.span q.span
  apart p q p_in q_in siblings =
      let (i, i_short, i_is) = place-from_Contains piece_of es nothing p p_in in
      let (j, j_short, j_is) = place-from_Contains piece_of es nothing q q_in in
      let (pk, p_state, p_span, p_node) = piece_is_kept (at es i).state (at es i).span p i_is in
      let (qk, q_state, q_span, q_node) = piece_is_kept (at es j).state (at es j).span q j_is in
      let i_kept : is_kept (at es i).state ≡ true = ap is_kept p_state in
      let j_kept : is_kept (at es j).state ≡ true = ap is_kept q_state in
      let there : AreSiblings n (at es i).span (at es j).span = rw (p_span, q_span) siblings in
      elim there [
        | inl kids ↦ lawful.apart i j i_kept j_kept kids
        | inr kids ↦ lawful.apart j i j_kept i_kept kids
      ]

  -- the state of lawful entries is lawful
  pub lawful_state : (book : ℕ) → sum_by kept_count es ≡ book → IsLawful (state_of input mode first es book)
  lawful_state book booked = record {
    subtrees = subtrees;
    once = once;
    nodes = nodes;
    apart = apart;
    booked = sum_kept (λ (s : Span). s.count) es ∙ booked;
    whole = omega (arith, booked, sum_open (λ (s : Span). s.count) es, lawful.sound.all);
  }

-- and so is the board that is seen of what a board keeps
pub IsLawful-seen : {input : KnownInput} {mode : Mode} {first grain book : ℕ} {sure : Type 0} {es : List Entry}
    {missed : Bool} {board : BoardState} → KeepsBoard input mode first grain sure es book missed
    → state_of input mode first es book ≡ board → IsLawful board
IsLawful-seen kept seen = subst IsLawful seen (lawful_state _ _ _ _ kept.lawful _ kept.booked)

-- over an input in memory, each piece of a lawful board has the top of the input's own chunks in its span
pub IsLawful-in_memory : (input : List ℕ) (board : BoardState) → board.input ≡ in_memory input → IsLawful board
    → HasTopsOf input board
IsLawful-in_memory input board is lawful =
    All-weaker (λ (p : Piece). IsNodeOf board.input board.mode board.first p.span p.node)
    (λ (p : Piece). p.node ≡ top_of input board.mode board.first p.span)
    (λ p node. IsNodeOf-in_memory input board.mode board.first p.span p.node
    (subst (λ (k : KnownInput). IsNodeOf k board.mode board.first p.span p.node) is node)) board.pieces lawful.nodes
