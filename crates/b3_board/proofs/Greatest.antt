-- The pieces of a lawful board are the greatest subtrees of deposited chunks.
use Rattle.std.proofs.Common.{inl, inr, ◌≡◌, ℕ, zero, suc, ◌+◌, ◌<◌, ◌≤◌, List, [], ◌∷◌, length, map, get_or, arith, refl, sym, subst, ap, ◌∙◌}
use Rattle.std.proofs.lemmas.Bool.{cases_lt}
use Rattle.std.proofs.lemmas.List.Elements.{All-contains, Contains-append_right, Contains-get_or}
use Rattle.std.proofs.lemmas.List.Sums.{get_or-le-sum_by, sum_by-append, sum_by-cons}
use Rattle.std.proofs.lemmas.List.{get_or_default}
use Rattle.std.specs.List.{Contains, sum_by}
use Rattle.b3_core.specs.Subtrees.{AreChildren, IsSubtree}
use Rattle.b3_core.specs.declared.spans.Span.{Span}
use Rattle.b3_core.proofs.Covers.{has_all}
use Rattle.b3_core.proofs.Grid.{InGrid-from_IsSubtree, Within}
use Rattle.b3_core.proofs.Siblings.{IsSubtree-had}
use Rattle.b3_board.specs.BoardStates.{IsDeposited, IsGreatest, IsLawful, BoardState, Piece, PiecesAreGreatest, all_spans, piece_spans, size}
use Rattle.b3_board.specs.Spans.{IsSubtreeSpan, chunk_in, coverage}

-- where a sum is not 0, an element's part is not
pub some_of_sum : {X : Type 0} (f : X → ℕ) (xs : List X) (d : X) → 0 < sum_by f xs
    → (i : ℕ) × (i < length xs) × (0 < f (get_or xs i d))
some_of_sum f [] d h = absurd (omega arith)
some_of_sum f (x ∷ xs) d h =
    elim (cases_lt 0 (f x)) [
      | inl some ↦ (0, omega arith, some)
      | inr none ↦
          let (i, short, some) = some_of_sum f xs d (omega (arith, h, sum_by-cons f x xs)) in
          (suc i, omega arith, some)
    ]

-- in a sum of 1 at most, one element alone has a part
only_of_sum : {X : Type 0} (f : X → ℕ) (xs : List X) (d : X) (i j : ℕ) → sum_by f xs ≤ 1 → i < length xs → j < length xs
    → 0 < f (get_or xs i d) → 0 < f (get_or xs j d) → i ≡ j
only_of_sum f [] d i j most i_short j_short i_some j_some = absurd (omega arith)
only_of_sum f (x ∷ xs) d zero zero most i_short j_short i_some j_some = refl
only_of_sum f (x ∷ xs) d zero (suc j) most i_short j_short i_some j_some =
    absurd (omega (arith, most, i_some, j_some, sum_by-cons f x xs, get_or-le-sum_by f xs j d (omega arith)))
only_of_sum f (x ∷ xs) d (suc i) zero most i_short j_short i_some j_some =
    absurd (omega (arith, most, i_some, j_some, sum_by-cons f x xs, get_or-le-sum_by f xs i d (omega arith)))
only_of_sum f (x ∷ xs) d (suc i) (suc j) most i_short j_short i_some j_some =
    ap suc (only_of_sum f xs d i j (omega (arith, most, sum_by-cons f x xs)) (omega arith) (omega arith) i_some j_some)

-- an element of a list's images is the image of one
from_map : {X Y : Type 0} (f : X → Y) (xs : List X) (y : Y) → Contains (map f xs) y
    → (x : X) × Contains xs x × (f x ≡ y)
from_map f [] y (k, lt, is) = absurd (omega arith)
from_map f (x ∷ xs) y (zero, lt, is) = (x, (0, omega arith, refl), is)
from_map f (x ∷ xs) y (suc k, lt, is) =
    let (z, (j, short, there), same) = from_map f xs y (k, omega arith, is) in
    (z, (suc j, omega arith, there), same)

pub has_inside : (k a c : ℕ) → 0 < chunk_in k a c → (a ≤ k) × (k < a + c)
has_inside k a c h = (omega arith, omega arith)

has_some : (k a c : ℕ) → a ≤ k → k < a + c → 0 < chunk_in k a c
has_some k a c low high = omega arith

module _ (board : BoardState) (lawful : IsLawful board) where
  abbrev n : ℕ
  n = size board

  abbrev spans : List Span
  spans = piece_spans board

  abbrev span : ℕ → ℕ → Span
  span a c = record { first = a; count = c }

  abbrev P : ℕ → ℕ → Type 0
  P a c = Contains spans (span a c)

  abbrev chunk_of : ℕ → Span → ℕ
  chunk_of k s = chunk_in k s.first s.count

  tree : (a c : ℕ) → P a c → IsSubtree n a c
  tree a c p =
      let one_of_all = Contains-append_right board.open_spans spans (span a c) p in
      IsSubtree-had n a c (omega arith)
      (All-contains (IsSubtreeSpan n) (all_spans board) (span a c) lawful.subtrees one_of_all)

  apart : (a l b r : ℕ) → P a l → P b r → AreChildren n a l b r → ⊥
  apart a l b r p q kids =
      let (x, x_in, x_is) = from_map (λ (piece : Piece). piece.span) board.pieces (span a l) p in
      let (y, y_in, y_is) = from_map (λ (piece : Piece). piece.span) board.pieces (span b r) q in
      lawful.apart x y x_in y_in (rw (x_is, y_is) (inl kids))

  at_most_once : (k : ℕ) → k < n → coverage k spans ≤ 1
  at_most_once k lt = omega (arith, lawful.once k lt, sum_by-append (chunk_of k) board.open_spans spans)

  inside : (a c : ℕ) → P a c → (a + c ≤ n) × (0 < c)
  inside a c p = let at = InGrid-from_IsSubtree n (omega arith) (tree a c p) in (at.ends, at.some)

  deposited : (a c : ℕ) → P a c → IsDeposited board a c
  deposited a c (i, short, is) k low high =
      let ends = (inside a c (i, short, is)).0 in
      let here : 0 < chunk_of k (get_or spans i (span a c)) = rw is (has_some k a c low high) in
      omega (arith, here, get_or-le-sum_by (chunk_of k) spans i (span a c) short, at_most_once k (omega arith))

  covered : (a c : ℕ) → IsDeposited board a c → (k : ℕ) → a ≤ k → k < a + c
      → (b : ℕ) × (d : ℕ) × P b d × (b ≤ k) × (k < b + d)
  covered a c all k low high =
      let (i, short, some) = some_of_sum (chunk_of k) spans (span 0 0) (omega (arith, all k low high)) in
      let s = get_or spans i (span 0 0) in
      let h = has_inside k s.first s.count some in
      (s.first, s.count, Contains-get_or spans i (span 0 0) short, h.0, h.1)

  -- two pieces with a chunk in common are one
  same_piece : (k a c b d : ℕ) → k < n → P a c → P b d → a ≤ k → k < a + c → b ≤ k → k < b + d → (a ≡ b) × (c ≡ d)
  same_piece k a c b d lt (i, i_short, i_is) (j, j_short, j_is) a_low a_high b_low b_high =
      let there : get_or spans j (span a c) ≡ span b d = get_or_default spans j (span a c) (span b d) j_short ∙ j_is in
      let i_some : 0 < chunk_of k (get_or spans i (span a c)) = rw i_is (has_some k a c a_low a_high) in
      let j_some : 0 < chunk_of k (get_or spans j (span a c)) = rw there (has_some k b d b_low b_high) in
      let one = only_of_sum (chunk_of k) spans (span a c) i j (at_most_once k lt) i_short j_short i_some j_some in
      let same : span a c ≡ span b d = sym i_is ∙ ap (λ (x : ℕ). get_or spans x (span a c)) one ∙ there in
      (ap (λ (s : Span). s.first) same, ap (λ (s : Span). s.count) same)

  -- one piece has all of a subtree that was deposited
  piece_over : (a c : ℕ) → IsSubtree n a c → IsDeposited board a c → (b : ℕ) × (d : ℕ) × P b d × Within a c b d
  piece_over a c up all = has_all n (omega arith) P tree apart a c up (covered a c all)

  piece_is_greatest : (a c : ℕ) → P a c → IsGreatest board (span a c)
  piece_is_greatest a c p = record {
    subtree = ∣ tree a c p ∣₁;
    deposited = deposited a c p;
    greatest = λ A C up all low high.
        let (ends, some) = inside a c p in
        let (b, d, q, (b_low, b_high)) = piece_over A C up all in
        let same = same_piece a a c b d (omega arith) p q (omega arith) (omega arith) (omega arith) (omega arith) in
        (omega (arith, same.0), omega (arith, same.0, same.1));
  }

  greatest_is_piece : (s : Span) → IsGreatest board s → Contains spans s
  greatest_is_piece s top =
      let up = IsSubtree-had n s.first s.count (omega arith) top.subtree in
      let (b, d, q, (low, high)) = piece_over s.first s.count up top.deposited in
      let same = top.greatest b d (tree b d q) (deposited b d q) low high in
      subst (λ (x : ℕ). P x s.count) same.0 (subst (λ (y : ℕ). P b y) same.1 q)

  -- the pieces are just these
  pub pieces_are_greatest : PiecesAreGreatest board
  pieces_are_greatest s = (λ p. piece_is_greatest s.first s.count p, λ top. greatest_is_piece s top)
