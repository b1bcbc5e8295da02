-- The open spans: with none there is the root alone, and the other way round; and what closing one leaves.
use Rattle.std.proofs.Common.{inl, inr, ◌⊎◌, ◌≡◌, ℕ, zero, suc, ◌+◌, ◌*◌, ◌<◌, ◌≤◌, Bool, true, false, List, [], ◌∷◌, length, map, set, get_or, Option, Some, None, arith, refl, sym, subst, ap, ◌∙◌}
use Rattle.std.proofs.lemmas.Bool.{cases_lt, cases_eq, false≢true, eq-eqb, ne_eqb}
use Rattle.std.proofs.Math.ListN.{get_or-map as map_at}
use Rattle.std.proofs.lemmas.List.{get_or_past, get_or-set_same, get_or-set_other, length-map, length-set, take_all}
use Rattle.std.proofs.lemmas.List.Sums.{sum_by-cons, get_or-le-sum_by}
use Rattle.std.specs.List.{sum_by, filter_map, cons_option}
use Rattle.b3_core.specs.Subtrees.{AreChildren, IsSubtree}
use Rattle.b3_core.specs.Tree.{chunks, top}
use Rattle.b3_core.specs.declared.modes.Mode.{Mode}
use Rattle.b3_core.specs.declared.spans.Span.{Span}
use Rattle.b3_core.proofs.Grid.{InGrid-from_IsSubtree}
use Rattle.b3_board.specs.declared.entries.Entry.{Entry}
use Rattle.b3_board.specs.declared.entries.State.{State}
use Rattle.b3_board.specs.declared.entries.State.TheVariants.{Open, Kept, Joined}
use Rattle.b3_board.specs.Entries.{at, nothing, has_chunk, kept_count, open_count, if_kept, if_open, open_span, open_spans, some_open, is_kept, is_joined, FitsState, Lawful, NoneOpen}
use Rattle.b3_board.specs.BoardStates.{LosesSpan}
use Rattle.b3_board.specs.Spans.{IsRootOf, KnownInput, chunk_in, part}
use Rattle.b3_board.specs.declared.entries.KeptNode.{KeptNode}
use Rattle.b3_board.proofs.Partners.{kept_short, kept_some, what_is_kept}
use Rattle.b3_core.proofs.Siblings.{IsSubtree-had}
use Rattle.b3_core.proofs.Covers.{has_whole}

pub some_of_sum : (f : Entry → ℕ) (es : List Entry) → 0 < sum_by f es → (i : ℕ) × (i < length es) × (0 < f (at es i))
some_of_sum f [] h = absurd (omega arith)
some_of_sum f (e ∷ es) h =
    elim (cases_lt 0 (f e)) [
      | inl some ↦ (0, omega arith, some)
      | inr none ↦ let (i, short, some) = some_of_sum f es (omega (arith, sum_by-cons f e es)) in (
        suc i,
        omega arith,
        some,
      )
    ]

pub sum_of_none : (f : Entry → ℕ) (es : List Entry) → ((i : ℕ) → f (at es i) ≡ 0) → sum_by f es ≡ 0
sum_of_none f es none =
    elim (cases_lt 0 (sum_by f es)) [
      | inl some ↦ let (i, short, more) = some_of_sum f es some in absurd (omega (arith, none i))
      | inr no_more ↦ omega arith
    ]

pub has_inside : (k a c : ℕ) → 0 < chunk_in k a c → (a ≤ k) × (k < a + c)
has_inside k a c h = (omega arith, omega arith)

is_some_span : Option Span → Bool
is_some_span None = false
is_some_span (Some s) = true

open_zero : (s : State) (x : Span) → FitsState s x.count → if_open s x.count ≡ 0 → some_open s x ≡ None
open_zero Joined x fits zero_count = refl
open_zero (Kept n) x fits zero_count = refl
open_zero Open x fits zero_count = absurd (false≢true (fits ∙ eq-eqb x.count 0 zero_count))

open_is : {x : Span} → Some x ≡ None → true ≡ false
unfolding is_some_span
open_is e = ap is_some_span e

closed_zero : (s : State) (x : Span) → some_open s x ≡ None → if_open s x.count ≡ 0
closed_zero Joined x closed = refl
closed_zero (Kept n) x closed = refl
closed_zero Open x closed = absurd (false≢true (sym (open_is closed)))

-- a state that is neither open nor of a joined span is kept
kept_else : (s : State) (x : Span) → some_open s x ≡ None → is_joined s ≡ false → is_kept s ≡ true
kept_else Joined x closed there = absurd (false≢true (sym there))
kept_else Open x closed there = absurd (false≢true (sym (open_is closed)))
kept_else (Kept n) x closed there = refl

abbrev Piece : List Entry → ℕ → ℕ → ℕ → Type 0
Piece es a c i = (is_kept (at es i).state ≡ true) × ((at es i).span.first ≡ a) × ((at es i).span.count ≡ c)

module _ (input : KnownInput) (mode : Mode) (first : ℕ) (es : List Entry) (lawful : Lawful input mode first es) where
  abbrev n : ℕ
  n = chunks input.len

  abbrev P : ℕ → ℕ → Type 0
  P a c = (i : ℕ) × Piece es a c i

  pub tree_at : (i : ℕ) → is_kept (at es i).state ≡ true → IsSubtree n (at es i).span.first (at es i).span.count
  tree_at i kept =
      IsSubtree-had n _ _ (omega arith) (lawful.sound.subtrees i (kept_some _ _ kept (lawful.sound.fits i)))

  tree : (a c : ℕ) → P a c → IsSubtree n a c
  tree a c (i, (kept, begins, counts)) =
      let begun = subst (λ (x : ℕ). IsSubtree n x (at es i).span.count) begins (tree_at i kept) in
      subst (λ (x : ℕ). IsSubtree n a x) counts begun

  apart : (a l b r : ℕ) → P a l → P b r → AreChildren n a l b r → ⊥
  apart a l b r (i, (i_kept, i_first, i_count)) (j, (j_kept, j_first, j_count)) kids =
      let s = (at es i).span in
      let t = (at es j).span in
      let one = subst (λ (x : ℕ). AreChildren n x l b r) (sym i_first) kids in
      let two = subst (λ (x : ℕ). AreChildren n s.first x b r) (sym i_count) one in
      let three = subst (λ (x : ℕ). AreChildren n s.first s.count x r) (sym j_first) two in
      let four = subst (λ (x : ℕ). AreChildren n s.first s.count t.first x) (sym j_count) three in
      lawful.apart i j i_kept j_kept four

  covers : NoneOpen es → (k : ℕ) → k < n → (a : ℕ) × (c : ℕ) × P a c × (a ≤ k) × (k < a + c)
  covers none k lt =
      let (i, short, some) = some_of_sum (has_chunk k) es (omega (arith, lawful.sound.once k lt)) in
      let here = has_inside k (at es i).span.first (at es i).span.count some in
      let there : is_joined (at es i).state ≡ false = lawful.sound.fits i
      ∙ ne_eqb (at es i).span.count 0 (λ zero_count. omega arith) in (
        (at es i).span.first,
        (at es i).span.count,
        (i, (kept_else (at es i).state (at es i).span (none i) there, refl, refl)),
        here.0,
        here.1,
      )

  -- with nothing open the entry at 0 is the whole
  pub root_there : NoneOpen es → (is_kept (at es 0).state ≡ true) × ((at es 0).span.count ≡ n) × (0 < length es)
  root_there none =
      let (i, (kept, begins, counts)) = has_whole n (omega arith) P tree apart (covers none) in
      let short = kept_short es i kept in
      let front : i ≡ 0 = elim (cases_lt 0 i) [
        | inl later ↦ let h = lawful.sound.in_order 0 i later short in absurd (omega arith)
        | inr now ↦ omega arith
      ] in (
        ap (λ (x : ℕ). is_kept (at es x).state) (sym front) ∙ kept,
        ap (λ (x : ℕ). (at es x).span.count) (sym front)
            ∙ counts,
        omega arith,
      )

  none_at : (i : ℕ) → sum_by open_count es ≡ 0 → open_span (at es i) ≡ None
  none_at i zero_open =
      elim (cases_lt i (length es)) [
        | inr past ↦ ap open_span (get_or_past es i nothing past)
        | inl short ↦ open_zero (at es i).state (at es i).span (lawful.sound.fits i) (omega (
          arith,
          get_or-le-sum_by open_count es i nothing short,
          zero_open,
        ))
      ]

  -- where the entry at 0 is the whole, nothing is open
  pub none_open : is_kept (at es 0).state ≡ true → (at es 0).span.count ≡ n → NoneOpen es
  none_open kept counts i =
      let (x, is) = what_is_kept (at es 0).state kept in
      let most = get_or-le-sum_by kept_count es 0 nothing (kept_short es 0 kept) in
      let whole : kept_count (at es 0) ≡ n = ap (λ (s : State). if_kept s (at es 0).span.count) is ∙ counts in
      let zero_open : sum_by open_count es ≡ 0 = omega (arith, lawful.sound.all) in
      none_at i zero_open

  -- and its node is the top
  pub root_top : (x : KeptNode) → (at es 0).state ≡ Kept x → (at es 0).span.count ≡ n
      → IsRootOf input mode first x.node
  root_top x is counts =
      let kept : is_kept (at es 0).state ≡ true = ap is_kept is in
      let at_zero = InGrid-from_IsSubtree n (omega arith) (tree_at 0 kept) in
      let ends = at_zero.ends in
      let begins : (at es 0).span.first ≡ 0 = omega arith in
      let same : first + (at es 0).span.first ≡ first = omega arith in
      let node = (lawful.sound.tops 0 x is).0 in
      let all : part node.bytes (at es 0).span.first (at es 0).span.count ≡ node.bytes =
      (λ i. part node.bytes (begins i) (counts i))
      ∙ take_all (1024 * n) node.bytes (omega (arith, node.may_be.len_is)) in
      record { bytes = node.bytes; may_be = node.may_be; is_top = node.is_top ∙ (λ i. top mode (same i) (all i)) }

  pub open_inside : (i : ℕ) → (at es i).state ≡ Open
      → ((at es i).span.first + (at es i).span.count ≤ n) × (0 < (at es i).span.count)
  open_inside i is =
      let there : is_joined (at es i).state ≡ false = ap is_joined is in
      let some : 0 < (at es i).span.count = elim (cases_lt 0 (at es i).span.count) [
        | inl more ↦ more
        | inr zero_count ↦
            let empty = lawful.sound.fits i ∙ eq-eqb (at es i).span.count 0 (omega arith) in
            absurd (false≢true (sym there ∙ empty))
      ] in
      let subtree = IsSubtree-had n _ _ (omega arith) (lawful.sound.subtrees i some) in
      let at_i = InGrid-from_IsSubtree n (omega arith) subtree in
      (at_i.ends, some)

  -- with nothing open all chunks are in pieces
  pub all_kept : NoneOpen es → sum_by kept_count es ≡ n
  all_kept none =
      let zero_open : sum_by open_count es ≡ 0 =
      sum_of_none open_count es (λ i. closed_zero (at es i).state (at es i).span (none i)) in
      omega (arith, lawful.sound.all)

-- the open spans after one was closed
pub still_closed : (es fs : List Entry) (p : ℕ) → p < length es → map open_span fs ≡ set (map open_span es) p None
    → (i : ℕ) → (i ≡ p) ⊎ (open_span (at es i) ≡ None) → open_span (at fs i) ≡ None
still_closed es fs p short is i which =
    let there : open_span (at fs i) ≡ get_or (set (map open_span es) p None) i None =
    sym (map_at open_span fs i nothing) ∙ ap (λ (os : List (Option Span)). get_or os i None) is in
    elim (cases_eq i p) [
      | inl same ↦ there ∙ ap (λ (x : ℕ). get_or (set (map open_span es) p None) x None) same
          ∙ get_or-set_same (map open_span es) p None None (rw (length-map es open_span) short)
      | inr other ↦ there ∙ get_or-set_other (map open_span es) p i None None other ∙ map_at open_span es i nothing
          ∙ elim which [ inl same ↦ absurd (other same) | inr closed ↦ closed ]
    ]

-- the chunks of an open span, and 0 of none
chunks_open : Option Span → ℕ
chunks_open None = 0
chunks_open (Some s) = s.count

open_count_is : (state : State) (s : Span) → if_open state s.count ≡ chunks_open (some_open state s)
unfolding chunks_open
open_count_is Joined s = refl
open_count_is Open s = refl
open_count_is (Kept kept) s = refl

-- and no entry has more open chunks than before
pub open_count-closed : (es fs : List Entry) (p : ℕ) → p < length es → map open_span fs ≡ set (map open_span es) p None
    → (i : ℕ) → open_count (at fs i) ≤ open_count (at es i)
unfolding chunks_open
open_count-closed es fs p short is i =
    let there : open_span (at fs i) ≡ get_or (set (map open_span es) p None) i None =
    sym (map_at open_span fs i nothing) ∙ ap (λ (os : List (Option Span)). get_or os i None) is in
    let now = open_count_is (at fs i).state (at fs i).span in
    let was = open_count_is (at es i).state (at es i).span in
    elim (cases_eq i p) [
      | inl same ↦
          let none : open_span (at fs i) ≡ None = still_closed es fs p short is i (inl same) in
          omega (arith, now ∙ ap chunks_open none)
      | inr other ↦
          let stays : open_span (at fs i) ≡ open_span (at es i) =
          there ∙ get_or-set_other (map open_span es) p i None None other ∙ map_at open_span es i nothing in
          omega (arith, now ∙ ap chunks_open stays ∙ sym was)
    ]

-- the entries are as many
pub same_length : (es fs : List Entry) (p : ℕ) → map open_span fs ≡ set (map open_span es) p None
    → length fs ≡ length es
same_length es fs p is =
    sym (length-map fs open_span) ∙ ap length is ∙ length-set (map open_span es) p None ∙ length-map es open_span

none_some : {s : Span} → None ≡ Some s → ⊥
none_some e = false≢true (sym (open_is (sym e)))

-- a list of options that loses one
lost : (os : List (Option Span)) (p : ℕ) (s : Span) → get_or os p None ≡ Some s
    → LosesSpan (filter_map (λ o. o) os) s (filter_map (λ o. o) (set os p None))
lost [] p s e = absurd (none_some e)
lost (o ∷ os) zero s e = ([], filter_map (λ o. o) os, ap (λ x. cons_option x (filter_map (λ o. o) os)) e, refl)
lost (None ∷ os) (suc p) s e = lost os p s e
lost (Some x ∷ os) (suc p) s e = let (before, after, had, left) = lost os p s e in (
  x ∷ before,
  after,
  ap (λ ys. x ∷ ys) had,
  ap (λ ys. x ∷ ys) left,
)

-- an option that is taken as it is
filter_map-map : {X Y : Type 0} (f : X → Option Y) (xs : List X) → filter_map (λ o. o) (map f xs) ≡ filter_map f xs
filter_map-map f [] = refl
filter_map-map f (x ∷ xs) = ap (cons_option (f x)) (filter_map-map f xs)

pub loses_span : (es fs : List Entry) (p : ℕ) (s : Span) → (at es p).state ≡ Open → (at es p).span ≡ s
    → map open_span fs ≡ set (map open_span es) p None → LosesSpan (open_spans es) s (open_spans fs)
loses_span es fs p s is span opens =
    let was : get_or (map open_span es) p None ≡ Some s =
    map_at open_span es p nothing ∙ (λ i. some_open (is i) (span i)) in
    let h = lost (map open_span es) p s was in
    let P : List (Option Span) → Type 0 =
    λ os. LosesSpan (filter_map (λ o. o) (map open_span es)) s (filter_map (λ o. o) os) in
    let gone = subst P (sym opens) h in
    rw (filter_map-map open_span es, filter_map-map open_span fs) at gone
