-- The sibling of a piece among the pieces.
use Rattle.std.proofs.Common.{inl, inr, ◌⊎◌, ◌≡◌, ◌≢◌, ℕ, ◌+◌, ◌<◌, ◌≤◌, true, List, length, arith, refl, sym, ap, ◌∙◌}
use Rattle.std.proofs.lemmas.Bool.{cases_lt, false≢true, eq-eqb}
use Rattle.std.proofs.lemmas.List.{get_or_past}
use Rattle.b3_core.specs.Subtrees.{AreChildren, AreSiblings}
use Rattle.b3_core.specs.declared.spans.Span.{Span}
use Rattle.b3_board.specs.declared.entries.Entry.{Entry}
use Rattle.b3_board.specs.Entries.{at, nothing, is_kept, is_joined, FitsState, IsInOrder}
use Rattle.b3_board.proofs.Finding.{first_le, only_first}
use Rattle.b3_board.specs.declared.entries.State.{State}
use Rattle.b3_board.specs.declared.entries.State.TheVariants.{Open, Kept, Joined}
use Rattle.b3_board.specs.declared.entries.KeptNode.{KeptNode}
use Rattle.b3_core.proofs.Siblings.{Kids-from_AreChildren, one_sibling}

pub kept_short : (es : List Entry) (k : ℕ) → is_kept (at es k).state ≡ true → k < length es
kept_short es k kept =
    elim (cases_lt k (length es)) [
      | inl short ↦ short
      | inr past ↦ absurd (false≢true (sym (ap (λ (e : Entry). is_kept e.state) (get_or_past es k nothing past))
          ∙ kept))
    ]

pub sibling_numbers : (n : ℕ) (s t u : Span) → 1 ≤ n → AreSiblings n s t → AreSiblings n s u
    → (t.first ≡ u.first) × (t.count ≡ u.count)
sibling_numbers n s t u some x y = one_sibling n s.first s.count t.first t.count u.first u.count some x y

-- no entry begins where the sibling does
pub none_there : (n : ℕ) (es : List Entry) (s t : Span) → 1 ≤ n → AreSiblings n s t
    → ((i : ℕ) → i < length es → (at es i).span.first ≢ t.first)
    → (k : ℕ) → is_kept (at es k).state ≡ true → AreSiblings n s (at es k).span → ⊥
none_there n es s t some is none k kept sibling =
    none k (kept_short es k kept) (sym (sibling_numbers n s t (at es k).span some is sibling).0)

-- the entry that begins there is another
pub other_there : (n : ℕ) (es : List Entry) (s t : Span) → 1 ≤ n → IsInOrder es → AreSiblings n s t → (place : ℕ)
    → place < length es → (at es place).span.first ≡ t.first
    → (k : ℕ) → is_kept (at es k).state ≡ true → AreSiblings n s (at es k).span
    → (k ≡ place) × ((at es place).span.count ≡ t.count)
other_there n es s t some up is place short begins k kept sibling =
    let same = sibling_numbers n s t (at es k).span some is sibling in
    let there : k ≡ place = only_first es up k place (kept_short es k kept) short (sym same.0 ∙ sym begins) in
    (there, ap (λ (x : ℕ). (at es x).span.count) (sym there) ∙ sym same.1)

siblings_short : (n : ℕ) (s t : Span) → 1 ≤ n → AreSiblings n s t → s.count < n
siblings_short n s t some (inl x) = let k = Kids-from_AreChildren n _ _ _ _ some x in omega (
  arith,
  k.ends,
  k.next,
  k.some,
)
siblings_short n s t some (inr x) = let k = Kids-from_AreChildren n _ _ _ _ some x in omega (
  arith,
  k.ends,
  k.next,
  k.positive,
)

-- the whole has no sibling
pub whole_alone : (n : ℕ) (s t : Span) → 1 ≤ n → (s.count < n → ⊥) → AreSiblings n s t → ⊥
whole_alone n s t some long x = long (siblings_short n s t some x)

pub what_is_kept : (s : State) → is_kept s ≡ true → (x : KeptNode) × (s ≡ Kept x)
what_is_kept Joined h = absurd (false≢true h)
what_is_kept Open h = absurd (false≢true h)
what_is_kept (Kept x) h = (x, refl)

-- of two siblings the one with the lower index is the left child
pub sided : (n : ℕ) (es : List Entry) (i j : ℕ) → 1 ≤ n → IsInOrder es → i < length es → j < length es
    → AreSiblings n (at es i).span (at es j).span
    → ((i < j) × AreChildren n (at es i).span.first (at es i).span.count (at es j).span.first (at es j).span.count)
    ⊎ ((j < i) × AreChildren n (at es j).span.first (at es j).span.count (at es i).span.first (at es i).span.count)
sided n es i j some up i_short j_short (inl kids) =
    let k = Kids-from_AreChildren n _ _ _ _ some kids in
    elim (cases_lt i j) [
      | inl less ↦ inl (less, kids)
      | inr more ↦ let h = first_le es up j i more i_short in absurd (omega (arith, k.next, k.positive))
    ]
sided n es i j some up i_short j_short (inr kids) =
    let k = Kids-from_AreChildren n _ _ _ _ some kids in
    elim (cases_lt j i) [
      | inl less ↦ inr (less, kids)
      | inr more ↦ let h = first_le es up i j more j_short in absurd (omega (arith, k.next, k.positive))
    ]

pub siblings_fit : (n : ℕ) (s t : Span) → 1 ≤ n → AreSiblings n s t → s.count + t.count ≤ n
siblings_fit n s t some (inl x) = let k = Kids-from_AreChildren n _ _ _ _ some x in omega (arith, k.ends, k.next)
siblings_fit n s t some (inr x) = let k = Kids-from_AreChildren n _ _ _ _ some x in omega (arith, k.ends, k.next)

pub under : (n : ℕ) (es : List Entry) (i j : ℕ) → 1 ≤ n → IsInOrder es → i < length es → j < length es
    → AreSiblings n (at es i).span (at es j).span → j < i
    → (j ≢ i) × AreChildren n (at es j).span.first (at es j).span.count (at es i).span.first (at es i).span.count
under n es i j some up i_short j_short x lt =
    elim (sided n es i j some up i_short j_short x) [
      | inl y ↦ absurd (omega (arith, y.0))
      | inr y ↦ ((λ same. omega arith), y.1)
    ]

pub over : (n : ℕ) (es : List Entry) (i j : ℕ) → 1 ≤ n → IsInOrder es → i < length es → j < length es
    → AreSiblings n (at es i).span (at es j).span → i ≤ j
    → (i ≢ j) × AreChildren n (at es i).span.first (at es i).span.count (at es j).span.first (at es j).span.count
over n es i j some up i_short j_short x le =
    elim (sided n es i j some up i_short j_short x) [
      | inl y ↦ ((λ same. omega (arith, y.0)), y.1)
      | inr y ↦ absurd (omega (arith, y.0))
    ]

kept_joined : (s : State) → is_kept s ≡ true → is_joined s ≡ true → ⊥
kept_joined Joined h g = false≢true h
kept_joined Open h g = false≢true h
kept_joined (Kept x) h g = false≢true g

pub kept_some : (s : State) (c : ℕ) → is_kept s ≡ true → FitsState s c → 0 < c
kept_some s c kept fits =
    elim (cases_lt 0 c) [
      | inl some ↦ some
      | inr none ↦ absurd (kept_joined s kept (fits ∙ eq-eqb c 0 (omega arith)))
    ]

pub open_short : (es : List Entry) (k : ℕ) → (at es k).state ≡ Open → k < length es
open_short es k is =
    elim (cases_lt k (length es)) [
      | inl short ↦ short
      | inr past ↦ absurd (false≢true (sym (ap is_joined is)
          ∙ ap (λ (e : Entry). is_joined e.state) (get_or_past es k nothing past)))
    ]

pub open_there : (es : List Entry) → IsInOrder es → (place i : ℕ) → place < length es → (at es i).state ≡ Open
    → (at es place).span.first ≡ (at es i).span.first → i ≡ place
open_there es up place i short is same = only_first es up i place (open_short es i is) short (sym same)
