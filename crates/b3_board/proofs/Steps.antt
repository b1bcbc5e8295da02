-- What closing a span and joining two siblings does to the state of a board.
use Rattle.std.proofs.Common.{inl, inr, ◌⊎◌, ◌≡◌, ◌≢◌, ℕ, ◌+◌, ◌<◌, ◌≤◌, true, List, length, map, set, None, arith, refl, sym, subst, ap, ◌∙◌}
use Rattle.std.proofs.lemmas.Bool.{cases_lt, cases_eq, false≢true, ne_eqb}
use Rattle.std.proofs.lemmas.List.{get_or-set_same, get_or-set_other, length-set, set-get_or, map-set, get_or-map}
use Rattle.std.proofs.lemmas.List.Sums.{sum_by-set}
use Rattle.std.specs.List.{sum_by}
use Rattle.b3_core.specs.Nodes.{chaining}
use Rattle.b3_core.specs.Tree.{chunks, parent_node}
use Rattle.b3_core.specs.declared.modes.Mode.{Mode}
use Rattle.b3_core.specs.declared.nodes.Node.{Node}
use Rattle.b3_board.specs.declared.entries.KeptNode.{KeptNode}
use Rattle.b3_core.specs.declared.spans.Span.{Span}
use Rattle.b3_board.specs.declared.entries.Entry.{Entry}
use Rattle.b3_board.specs.declared.entries.State.{State}
use Rattle.b3_board.specs.declared.entries.State.TheVariants.{Open, Kept, Joined}
use Rattle.b3_board.specs.Entries.{at, nothing, has_chunk, kept_chunk, kept_count, open_count, open_span, if_kept, if_open, some_open, is_kept, is_joined, AreChildEntries, IsInOrder, FitsState, KeepsTop, Sound, Lawful, ApartBut, IsJoined, joined, closed, widened, emptied, kept_node}
use Rattle.b3_board.specs.Spans.{IsNodeOf, IsSubtreeSpan, KnownInput, chunk_in}
use Rattle.b3_board.proofs.KnownNodes.{IsNodeOf-joined}
use Rattle.b3_board.proofs.Partners.{what_is_kept}
use Rattle.b3_core.proofs.Siblings.{Kids-from_AreChildren}

-- ---- one chunk in a span

has_in : (k a c : ℕ) → a ≤ k → k < a + c → chunk_in k a c ≡ 1
has_in k a c low high = omega arith

has_before : (k a c : ℕ) → k < a → chunk_in k a c ≡ 0
has_before k a c before = omega arith

has_after : (k a c : ℕ) → a + c ≤ k → chunk_in k a c ≡ 0
has_after k a c after = omega arith

pub has_sum : (k a l b r : ℕ) → b ≡ a + l → chunk_in k a (l + r) ≡ chunk_in k a l + chunk_in k b r
has_sum k a l b r next =
    elim (cases_lt k a) [
      | inl before ↦ omega (
        arith,
        has_before k a (l + r) before,
        has_before k a l before,
        has_before k b r (omega arith),
      )
      | inr from ↦
          elim (cases_lt k (a + l)) [
            | inl front ↦ omega (
              arith,
              has_in k a (l + r) from (omega arith),
              has_in k a l from front,
              has_before k b r (omega arith),
            )
            | inr back ↦
                elim (cases_lt k (a + (l + r))) [
                  | inl inside ↦ omega (
                    arith,
                    has_in k a (l + r) from inside,
                    has_after k a l back,
                    has_in k b r (omega arith) (omega arith),
                  )
                  | inr after ↦ omega (
                    arith,
                    has_after k a (l + r) after,
                    has_after k a l back,
                    has_after k b r (omega arith),
                  )
                ]
          ]
    ]

pub has_none : (k a : ℕ) → chunk_in k a 0 ≡ 0
has_none k a = elim (cases_lt k a) [ inl before ↦ has_before k a 0 before | inr after ↦ has_after k a 0 (omega arith) ]

-- ---- entries after one write and after two

pub look_one : (es : List Entry) (i k : ℕ) (e : Entry) → i < length es
    → ((k ≡ i) × (at (set es i e) k ≡ e)) ⊎ ((k ≢ i) × (at (set es i e) k ≡ at es k))
look_one es i k e short =
    elim (cases_eq k i) [
      | inl same ↦ inl (same, ap (λ (n : ℕ). at (set es i e) n) same ∙ get_or-set_same es i e nothing short)
      | inr other ↦ inr (other, get_or-set_other es i k e nothing other)
    ]

pub look_two : (es : List Entry) (i j k : ℕ) (e d : Entry) → i < length es → j < length es → i ≢ j
    → ((k ≡ i) × (at (set (set es j d) i e) k ≡ e)) ⊎ ((k ≡ j) × (at (set (set es j d) i e) k ≡ d)) ⊎ ((k ≢ i)
    × (k ≢ j) × (at (set (set es j d) i e) k ≡ at es k))
look_two es i j k e d i_short j_short apart =
    elim (look_one (set es j d) i k e (rw (length-set es j d) i_short)) [
      | inl (same, is) ↦ inl (same, is)
      | inr (other, is) ↦
          elim (look_one es j k d j_short) [
            | inl (same2, is2) ↦ inr (inl (same2, is ∙ is2))
            | inr (other2, is2) ↦ inr (inr (other, other2, is ∙ is2))
          ]
    ]

pub sum_two : (f : Entry → ℕ) (es : List Entry) (i j : ℕ) (e d : Entry) → i < length es → j < length es → i ≢ j
    → sum_by f (set (set es j d) i e) + (f (at es i) + f (at es j)) ≡ sum_by f es + (f e + f d)
sum_two f es i j e d i_short j_short apart =
    let same : f (at (set es j d) i) ≡ f (at es i) = ap f (get_or-set_other es j i d nothing apart) in
    let first = sum_by-set f es j d nothing j_short in
    let second = sum_by-set f (set es j d) i e nothing (rw (length-set es j d) i_short) in
    omega (arith, same, first, second)

-- a write that changes no open span
pub open_same : (es : List Entry) (i : ℕ) (e : Entry) → i < length es → open_span e ≡ open_span (at es i)
    → map open_span (set es i e) ≡ map open_span es
open_same es i e short same =
    map-set open_span es i e
    ∙ ap (set (map open_span es) i) (same ∙ sym (get_or-map open_span es i nothing None short))
    ∙ set-get_or (map open_span es) i None

kept_or : State → KeptNode → KeptNode
kept_or Joined d = d
kept_or Open d = d
kept_or (Kept x) d = x

kept_is : (a x : KeptNode) → ◌≡◌ {A = State} (Kept a) (Kept x) → a ≡ x
unfolding kept_or
kept_is a x e = ap (λ (s : State). kept_or s a) e

-- ---- two siblings joined

module _ (input : KnownInput) (mode : Mode) (first : ℕ) (es : List Entry) (sound : Sound input mode first es)
    (l r : ℕ) (l_short : l < length es) (r_short : r < length es) (distinct : l ≢ r)
    (a b : KeptNode) (l_is : (at es l).state ≡ Kept a) (r_is : (at es r).state ≡ Kept b)
    (kids : AreChildEntries (chunks input.len) (at es l) (at es r)) where
  abbrev n : ℕ
  n = chunks input.len

  abbrev node : Node
  node = parent_node mode a.chaining_value b.chaining_value

  abbrev after : List Entry
  after = joined es l r node

  abbrev wide : Entry
  wide = widened (at es l) (at es r) node

  joined-first : (k : ℕ) → (at after k).span.first ≡ (at es k).span.first
  joined-first k =
      elim (look_two es l r k wide (emptied (at es r)) l_short r_short distinct) [
        | inl (same, is) ↦ ap (λ (e : Entry). e.span.first) is ∙ ap (λ (m : ℕ). (at es m).span.first) (sym same)
        | inr (inl (same, is)) ↦ ap (λ (e : Entry). e.span.first) is ∙ ap (λ (m : ℕ). (at es m).span.first) (sym same)
        | inr (inr (o, p, is)) ↦ ap (λ (e : Entry). e.span.first) is
      ]

  pub joined-length : length after ≡ length es
  joined-length = length-set (set es r (emptied (at es r))) l wide ∙ length-set es r (emptied (at es r))

  joined-in_order : IsInOrder after
  joined-in_order i j lt short =
      let h = sound.in_order i j lt (omega (arith, joined-length)) in omega (arith, joined-first i, joined-first j)

  joined-fits : (k : ℕ) → FitsState (at after k).state (at after k).span.count
  joined-fits k =
      let kid = Kids-from_AreChildren n _ _ _ _ (omega arith) kids in
      elim (look_two es l r k wide (emptied (at es r)) l_short r_short distinct) [
        | inl (same, is) ↦ subst (λ (e : Entry). FitsState e.state e.span.count) (sym is)
            (sym (ne_eqb _ _ (λ none. omega (arith, kid.positive))))
        | inr (inl (same, is)) ↦ subst (λ (e : Entry). FitsState e.state e.span.count) (sym is) refl
        | inr (inr (o, p, is)) ↦ subst (λ (e : Entry). FitsState e.state e.span.count) (sym is) (sound.fits k)
      ]

  joined-subtrees : (k : ℕ) → 0 < (at after k).span.count → IsSubtreeSpan n (at after k).span
  joined-subtrees k =
      elim (look_two es l r k wide (emptied (at es r)) l_short r_short distinct) [
        | inl (same, is) ↦ subst (λ (e : Entry). 0 < e.span.count
            → IsSubtreeSpan n e.span) (sym is) (λ some. ∣ kids.0 ∣₁)
        | inr (inl (same, is)) ↦ subst (λ (e : Entry). 0 < e.span.count
            → IsSubtreeSpan n e.span) (sym is) (λ some. absurd (omega arith))
        | inr (inr (o, p, is)) ↦ subst (λ (e : Entry). 0 < e.span.count
            → IsSubtreeSpan n e.span) (sym is) (sound.subtrees k)
      ]

  joined-once : (k : ℕ) → k < n → sum_by (has_chunk k) after ≡ 1
  joined-once k lt =
      let two = sum_two (has_chunk k) es l r wide (emptied (at es r)) l_short r_short distinct in
      let sums = has_sum k (at es l).span.first (at es l).span.count (at es r).span.first (at es r).span.count kids.2 in
      omega (arith, two, sums, has_none k (at es r).span.first, sound.once k lt)

  pub joined-kept_chunk : (k : ℕ) → sum_by (kept_chunk k) after ≡ sum_by (kept_chunk k) es
  joined-kept_chunk k =
      let two = sum_two (kept_chunk k) es l r wide (emptied (at es r)) l_short r_short distinct in
      let sums = has_sum k (at es l).span.first (at es l).span.count (at es r).span.first (at es r).span.count kids.2 in
      let le = ap (λ (s : State). if_kept s (chunk_in k (at es l).span.first (at es l).span.count)) l_is in
      let re = ap (λ (s : State). if_kept s (chunk_in k (at es r).span.first (at es r).span.count)) r_is in
      omega (arith, two, sums, le, re)

  pub joined-kept_count : sum_by kept_count after ≡ sum_by kept_count es
  joined-kept_count =
      let two = sum_two kept_count es l r wide (emptied (at es r)) l_short r_short distinct in
      let le = ap (λ (s : State). if_kept s (at es l).span.count) l_is in
      let re = ap (λ (s : State). if_kept s (at es r).span.count) r_is in
      omega (arith, two, le, re)

  joined-open_count : sum_by open_count after ≡ sum_by open_count es
  joined-open_count =
      let two = sum_two open_count es l r wide (emptied (at es r)) l_short r_short distinct in
      let le = ap (λ (s : State). if_open s (at es l).span.count) l_is in
      let re = ap (λ (s : State). if_open s (at es r).span.count) r_is in
      omega (arith, two, le, re)

  pub joined-open : map open_span after ≡ map open_span es
  joined-open =
      let first_is : open_span (at es r) ≡ None = ap (λ (s : State). some_open s (at es r).span) r_is in
      let second_is : open_span (at es l) ≡ None = ap (λ (s : State). some_open s (at es l).span) l_is in
      let gone = emptied (at es r) in
      let kept : at (set es r gone) l ≡ at es l = get_or-set_other es r l gone nothing distinct in
      let l_inside : l < length (set es r gone) = rw (length-set es r gone) l_short in
      open_same (set es r gone) l wide l_inside (sym (ap open_span kept ∙ second_is))
      ∙ open_same es r gone r_short (sym first_is)

  joined-tops : (k : ℕ) → KeepsTop input mode first (at after k).state (at after k).span
  joined-tops k =
      let (left, left_chaining) = sound.tops l a l_is in
      let (right, right_chaining) = sound.tops r b r_is in
      let parent : parent_node mode (chaining a.node) (chaining b.node) ≡ node =
      λ i. parent_node mode (sym left_chaining i) (sym right_chaining i) in
      let here : IsNodeOf input mode first wide.span node = subst (IsNodeOf input mode first wide.span) parent
      (IsNodeOf-joined input mode first _ _ _ _ a.node b.node kids left right) in
      elim (look_two es l r k wide (emptied (at es r)) l_short r_short distinct) [
        | inl (same, is) ↦
            subst (λ (e : Entry). KeepsTop input mode first e.state e.span) (sym is)
            (λ x x_is. subst (λ (k : KeptNode). IsNodeOf input mode first wide.span k.node
            × (k.chaining_value ≡ chaining k.node)) (kept_is (kept_node node) x x_is) (here, refl))
        | inr (inl (same, is)) ↦
            subst (λ (e : Entry). KeepsTop input mode first e.state e.span) (sym is)
            (λ x x_is. absurd (false≢true (ap is_kept x_is)))
        | inr (inr (o, p, is)) ↦ subst (λ (e : Entry). KeepsTop input mode first e.state e.span) (sym is) (sound.tops k)
      ]

  pub joined-sound : Sound input mode first after
  joined-sound = record {
    in_order = joined-in_order;
    fits = joined-fits;
    subtrees = joined-subtrees;
    once = joined-once;
    tops = joined-tops;
    all = omega (arith, joined-kept_count, joined-open_count, sound.all);
  }

  -- a piece other than the joined one is an old piece, neither of the two
  old_piece : (k : ℕ) → k ≢ l → is_kept (at after k).state ≡ true → (k ≢ r) × (at after k ≡ at es k)
  old_piece k other kept =
      elim (look_two es l r k wide (emptied (at es r)) l_short r_short distinct) [
        | inl (same, is) ↦ absurd (other same)
        | inr (inl (same, is)) ↦ absurd (false≢true (sym (ap (λ (e : Entry). is_kept e.state) is) ∙ kept))
        | inr (inr (o, p, is)) ↦ (p, is)
      ]

  pub joined-apart : (free : ℕ) → (free ≡ l) ⊎ (free ≡ r) → ApartBut n free es → ApartBut n l after
  joined-apart free which old i j i_other j_other i_kept j_kept =
      let x = old_piece i i_other i_kept in
      let y = old_piece j j_other j_kept in
      let moved : AreChildEntries n (at after i) (at after j) → AreChildEntries n (at es i) (at es j) =
      λ h. subst (AreChildEntries n (at es i)) y.1 (subst (λ (e : Entry). AreChildEntries n e (at after j)) x.1 h) in
      let not_free : (k : ℕ) → k ≢ l → k ≢ r
      → k ≢ free = λ k kl kr same. elim which [ inl e ↦ kl (same ∙ e) | inr e ↦ kr (same ∙ e) ] in
      λ h. old i j (not_free i i_other x.0) (not_free j j_other y.0) (sym (ap (λ (e : Entry). is_kept e.state) x.1)
      ∙ i_kept) (sym (ap (λ (e : Entry). is_kept e.state) y.1) ∙ j_kept) (moved h)

-- ---- an open span closed

module _ (input : KnownInput) (mode : Mode) (first : ℕ) (es : List Entry) (lawful : Lawful input mode first es)
    (i : ℕ) (short : i < length es) (is_open_at : (at es i).state ≡ Open)
    (kept : KeptNode) (is_top : IsNodeOf input mode first (at es i).span kept.node)
    (is_chaining : kept.chaining_value ≡ chaining kept.node) where
  abbrev m : ℕ
  m = chunks input.len

  abbrev sound1 : Sound input mode first es
  sound1 = lawful.sound

  abbrev done : Entry
  done = record { span = (at es i).span; state = Kept kept }

  abbrev next : List Entry
  next = closed es i kept

  closed-first : (k : ℕ) → (at next k).span ≡ (at es k).span
  closed-first k =
      elim (look_one es i k done short) [
        | inl (same, is) ↦ ap (λ (e : Entry). e.span) is ∙ ap (λ (x : ℕ). (at es x).span) (sym same)
        | inr (o, is) ↦ ap (λ (e : Entry). e.span) is
      ]

  closed-fits : (k : ℕ) → FitsState (at next k).state (at next k).span.count
  closed-fits k =
      elim (look_one es i k done short) [
        | inl (same, is) ↦ subst (λ (e : Entry). FitsState e.state e.span.count) (sym is)
            (sym (ap is_joined is_open_at) ∙ sound1.fits i)
        | inr (o, is) ↦ subst (λ (e : Entry). FitsState e.state e.span.count) (sym is) (sound1.fits k)
      ]

  closed-tops : (k : ℕ) → KeepsTop input mode first (at next k).state (at next k).span
  closed-tops k =
      elim (look_one es i k done short) [
        | inl (same, is) ↦
            subst (λ (e : Entry). KeepsTop input mode first e.state e.span) (sym is)
            (λ x x_is. subst (λ (k : KeptNode). IsNodeOf input mode first done.span k.node
            × (k.chaining_value ≡ chaining k.node)) (kept_is kept x x_is) (is_top, is_chaining))
        | inr (o, is) ↦ subst (λ (e : Entry). KeepsTop input mode first e.state e.span) (sym is) (sound1.tops k)
      ]

  pub closed-kept_chunk : (k : ℕ)
      → sum_by (kept_chunk k) next ≡ sum_by (kept_chunk k) es + chunk_in k (at es i).span.first (at es i).span.count
  closed-kept_chunk k =
      omega (
        arith,
        sum_by-set (kept_chunk k) es i done nothing short,
        ap (λ (s : State). if_kept s (chunk_in k (at es i).span.first (at es i).span.count)) is_open_at,
      )

  pub closed-kept_count : sum_by kept_count next ≡ sum_by kept_count es + (at es i).span.count
  closed-kept_count = omega (
    arith,
    sum_by-set kept_count es i done nothing short,
    ap (λ (s : State). if_kept s (at es i).span.count) is_open_at,
  )

  closed-open_count : sum_by open_count next + (at es i).span.count ≡ sum_by open_count es
  closed-open_count = omega (
    arith,
    sum_by-set open_count es i done nothing short,
    ap (λ (s : State). if_open s (at es i).span.count) is_open_at,
  )

  pub closed-sound : Sound input mode first next
  closed-sound = record {
    in_order = λ x y lt y_short. let h = sound1.in_order x y lt (omega (
      arith,
      length-set es i done,
    )) in omega (
      arith,
      ap (λ (s : Span). s.first) (closed-first x),
      ap (λ (s : Span). s.first) (closed-first y),
    );
    fits = closed-fits;
    subtrees = λ k. subst (λ (s : Span). 0 < s.count → IsSubtreeSpan m s) (sym (closed-first k)) (sound1.subtrees k);
    once = λ k lt. omega (arith, sum_by-set (has_chunk k) es i done nothing short, sound1.once k lt);
    tops = closed-tops;
    all = omega (arith, closed-kept_count, closed-open_count, sound1.all);
  }

  pub closed-open : map open_span next ≡ set (map open_span es) i None
  closed-open = map-set open_span es i done

  pub closed-apart : ApartBut m i next
  closed-apart x y x_other y_other x_kept y_kept =
      let ex = get_or-set_other es i x done nothing x_other in
      let ey = get_or-set_other es i y done nothing y_other in
      rw (ex, ey) (lawful.apart x y (rw⁻¹ ex x_kept) (rw⁻¹ ey y_kept))

-- ---- what the code's join gives

widened_is : (es : List Entry) (l r : ℕ) (node : Node) → l < length es
    → at (joined es l r node) l ≡ widened (at es l) (at es r) node
widened_is es l r node short =
    let gone = emptied (at es r) in
    let inside : l < length (set es r gone) = rw (length-set es r gone) short in
    get_or-set_same (set es r gone) l (widened (at es l) (at es r) node) nothing inside

grown : (l r h : ℕ) → 0 < l → 0 < r → (h ≡ l) ⊎ (h ≡ r) → h < l + r
grown l r h some more (inl e) = omega arith
grown l r h some more (inr e) = omega arith

pub is_joined_well : (input : KnownInput) (mode : Mode) (first : ℕ) (es : List Entry) (here : ℕ) (fs : List Entry)
    (l r : ℕ) → l < length es → r < length es → l ≢ r
    → is_kept (at es l).state ≡ true → is_kept (at es r).state ≡ true
    → AreChildEntries (chunks input.len) (at es l) (at es r)
    → Sound input mode first es → ApartBut (chunks input.len) here es → (here ≡ l) ⊎ (here ≡ r)
    → ((a b : KeptNode) → (at es l).state ≡ Kept a → (at es r).state ≡ Kept b
    → fs ≡ joined es l r (parent_node mode a.chaining_value b.chaining_value))
    → IsJoined input mode first es here fs l
is_joined_well input mode first es here fs l r l_short r_short distinct l_kept r_kept kids sound apart which gives =
    let (a, a_is) = what_is_kept (at es l).state l_kept in
    let (b, b_is) = what_is_kept (at es r).state r_kept in
    let node = parent_node mode a.chaining_value b.chaining_value in
    let kid = Kids-from_AreChildren (chunks input.len) _ _ _ _ (omega arith) kids in
    let P : List Entry → Type 0 = λ xs. IsJoined input mode first es here xs l in
    let wide = widened_is es l r node l_short in
    let counts : ((at es here).span.count ≡ (at es l).span.count) ⊎ ((at es here).span.count ≡ (at es r).span.count) =
    elim which [
      | inl e ↦ inl (ap (λ (x : ℕ). (at es x).span.count) e)
      | inr e ↦ inr (ap (λ (x : ℕ). (at es x).span.count) e)
    ] in
    let more : (at es here).span.count < (at es l).span.count + (at es r).span.count =
    grown _ _ _ kid.positive kid.some counts in
    subst P (sym (gives a b a_is b_is)) record {
      inside = omega (arith, joined-length input mode first es sound l r l_short r_short distinct a b a_is b_is kids);
      kept = ap (λ (e : Entry). is_kept e.state) wide;
      sound = joined-sound input mode first es sound l r l_short r_short distinct a b a_is b_is kids;
      apart = joined-apart input mode first es sound l r l_short r_short distinct a b a_is b_is kids here which apart;
      same_chunks = joined-kept_chunk input mode first es sound l r l_short r_short distinct a b a_is b_is kids;
      same_count = joined-kept_count input mode first es sound l r l_short r_short distinct a b a_is b_is kids;
      same_open = joined-open input mode first es sound l r l_short r_short distinct a b a_is b_is kids;
      grows = omega (arith, more, ap (λ (e : Entry). e.span.count) wide);
    }
