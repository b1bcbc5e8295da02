-- The sibling of a subtree: by numbers, as the code finds it, and that it is the only one.
use Rattle.std.proofs.Common.{inl, inr, ◌⊎◌, ◌≡◌, ℕ, suc, ◌+◌, ◌-◌, ◌*◌, ◌%◌, ◌/◌, ◌^◌, ◌<◌, ◌≤◌, min, arith, refl}
use Rattle.std.proofs.Common.{subst, sym, ap, ◌∙◌}
use Rattle.std.proofs.lemmas.Bool.{cases_lt, cases_eq}
use Rattle.std.proofs.lemmas.Grind.{not_there}
use Rattle.std.proofs.lemmas.Nat.{div-add-mod', one_shl, pow_pos}
use Rattle.std.proofs.Math.Nat.{eq_of_mul-eq-mul_right, mul-mod_left, pow-le-pow_right}
use Rattle.std.specs.Int.{trailing_zeros, w64}
use Rattle.b3_core.specs.Tree.{IsLeft}
use Rattle.b3_core.specs.Subtrees.{AreChildren, AreSiblings, IsSubtree}
use Rattle.b3_core.specs.Subtrees.IsSubtree.{left_child, right_child}
use Rattle.b3_core.specs.declared.spans.Span.{Span}
use Rattle.b3_core.proofs.Grid.{InGrid, InGrid-from_IsSubtree, IsSubtree-from_InGrid, IsSubtree-from_tests}
use Rattle.b3_core.proofs.Grid.{tests-from_IsSubtree}
use Rattle.b3_core.proofs.Powers.{double, exponent, lower_multiple, lowest_bit, next_power, not_above}

module _ (n : ℕ) where
  left_full : (a c k : ℕ) → c ≡ 2 ^ k → a + c < n
      → (c + min c (n - (a + c)) ≡ 2 ^ suc k) ⊎ (a + (c + min c (n - (a + c))) ≡ n)
  left_full a c k power room =
      elim (cases_lt c (n - (a + c))) [
        | inl enough ↦ inl (omega (arith, double k))
        | inr short ↦ inr (omega arith)
      ]

  -- the span is a left child
  pub left_sibling : (a c : ℕ) → 1 ≤ n → IsSubtree n a c → a % (2 * c) ≡ 0 → a + c < n
      → AreChildren n a c (a + c) (min c (n - (a + c)))
  left_sibling a c some up starts room =
      let at = InGrid-from_IsSubtree n some up in
      let count = at.some in
      let power : c ≡ 2 ^ at.k = elim at.full [ inl power ↦ power | inr end ↦ absurd (omega arith) ] in
      let twice : 2 * c ≡ 2 ^ suc at.k = omega (arith, double at.k) in
      let begins : a ≡ a / (2 * c) * (2 * c) = omega (arith, div-add-mod' a (2 * c), starts) in
      let parent : InGrid n a (c + min c (n - (a + c))) = record {
        k = suc at.k;
        q = a / (2 * c);
        some = omega arith;
        ends = omega arith;
        covers = omega arith;
        least = omega arith;
        starts = begins ∙ ap (λ (x : ℕ). a / (2 * c) * x) twice;
        full = left_full a c at.k power room;
      } in
      (IsSubtree-from_InGrid n parent, ((at.k, power), omega arith, omega arith), refl)

  -- a span that begins at chunk 0 and is not the whole is a left child
  pub begins_later : (a c : ℕ) → c < n → (a + c < n → a % (2 * c) ≡ 0 → ⊥) → 0 < a
  begins_later a c short not_left =
      elim (cases_lt 0 a) [
        | inl later ↦ later
        | inr first ↦
            let none : a ≡ 0 * (2 * c) = omega arith in
            absurd (not_left (omega arith) (ap (λ (x : ℕ). x % (2 * c)) none ∙ mul-mod_left 0 (2 * c)))
      ]

  right_end : (a c j k Q : ℕ) → a ≡ (2 * Q + 1) * 2 ^ j → k ≤ j → (c ≡ 2 ^ k) ⊎ (a + c ≡ n)
      → (a + c < n → a % (2 * c) ≡ 0 → ⊥) → a + c ≤ n
      → (2 ^ j + c ≡ 2 ^ suc j) ⊎ (a - 2 ^ j + (2 ^ j + c) ≡ n)
  right_end a c j k Q lowest low (inr end) not_left ends = inr (omega (arith, lowest))
  right_end a c j k Q lowest low (inl power) not_left ends =
      elim (cases_lt k j) [
        | inr all ↦
            let same : k ≡ j = omega arith in
            inl (omega (arith, double j, power ∙ ap (λ (i : ℕ). 2 ^ i) same))
        | inl less ↦
            let e = j - suc k in
            let sum : j ≡ suc k + e = omega arith in
            let twice : 2 ^ suc k ≡ 2 * c = omega (arith, double k) in
            let multiple : a ≡ ((2 * Q + 1) * 2 ^ e) * (2 * c) =
            lowest ∙ ap (λ (i : ℕ). (2 * Q + 1) * 2 ^ i) sum ∙ lower_multiple (2 * Q + 1) (suc k) e
            ∙ ap (λ (x : ℕ). ((2 * Q + 1) * 2 ^ e) * x) twice in
            let divides : a % (2 * c) ≡ 0 = ap (λ (x : ℕ). x % (2 * c)) multiple
            ∙ mul-mod_left ((2 * Q + 1) * 2 ^ e) (2 * c) in
            elim (cases_lt (a + c) n) [
              | inl room ↦ absurd (not_left room divides)
              | inr none ↦ inr (omega (arith, lowest))
            ]
      ]

  -- the span is a right child, and 2 ^ j is the lowest bit of its first chunk's number
  pub right_sibling : (a c j Q : ℕ) → 1 ≤ n → IsSubtree n a c → a ≡ (2 * Q + 1) * 2 ^ j
      → (a + c < n → a % (2 * c) ≡ 0 → ⊥)
      → AreChildren n (a - 2 ^ j) (2 ^ j) a c
  right_sibling a c j Q some up lowest not_left =
      let at = InGrid-from_IsSubtree n some up in
      let count = at.some in
      let ends = at.ends in
      let low : at.k ≤ j = not_above a j at.k Q at.q lowest at.starts in
      let short : c ≤ 2 ^ j = omega (arith, at.covers, pow-le-pow_right {n = 2} (omega arith) low) in
      let parent : InGrid n (a - 2 ^ j) (2 ^ j + c) = record {
        k = suc j;
        q = Q;
        some = omega arith;
        ends = omega (arith, lowest);
        covers = omega (arith, double j);
        least = omega (arith, double j);
        starts = omega (arith, lowest, ap (λ (p : ℕ). Q * p) (double j));
        full = right_end a c j at.k Q lowest low at.full not_left ends;
      } in
      (IsSubtree-from_InGrid n parent, ((j, refl), omega arith, omega arith), omega (arith, lowest))

  -- the left sibling of a right child, as the code finds it
  pub right_found : (a c : ℕ) → 1 ≤ n → IsSubtree n a c → c < n → a < 2 ^ 64 → (a + c < n → a % (2 * c) ≡ 0 → ⊥)
      → (b : ℕ) → b ≡ 1 * 2 ^ trailing_zeros w64 a % 2 ^ 64 → (b ≤ a) × AreChildren n (a - b) b a c
  right_found a c some up short fits not_left b is =
      let (q, lowest, small) = lowest_bit a (begins_later a c short not_left) fits in
      let j = trailing_zeros w64 a in
      let bit : b ≡ 2 ^ j = is ∙ one_shl j 64 small in
      (omega (arith, bit, lowest), rw bit (right_sibling a c j q some up lowest not_left))

-- what two children are by numbers
pub record Kids (n a l b r : ℕ) : Type 0 where
  pub j : ℕ
  pub q : ℕ
  pub power : l ≡ 2 ^ j
  pub positive : 0 < l
  pub front : a ≡ (2 * q) * l
  pub back : b ≡ (2 * q + 1) * l
  pub next : b ≡ a + l
  pub some : 0 < r
  pub short : r ≤ l
  pub full : (r ≡ l) ⊎ (b + r ≡ n)
  pub ends : b + r ≤ n

pub Kids-from_AreChildren : (n a l b r : ℕ) → 1 ≤ n → AreChildren n a l b r → Kids n a l b r
Kids-from_AreChildren n a l b r some (up, ((j, is), low, high), next) =
    let at = InGrid-from_IsSubtree n some up in
    let ends = at.ends in
    let e1 = exponent j at.k (omega (arith, at.covers)) in
    let e2 = exponent at.k (suc (suc j)) (omega (arith, double (suc j), double j, at.least)) in
    let above : at.k ≡ suc j = omega arith in
    let power : 2 ^ at.k ≡ 2 * l = ap (λ (k : ℕ). 2 ^ k) above ∙ double j ∙ ap (λ (x : ℕ). 2 * x) (sym is) in
    let starts : a ≡ at.q * (2 * l) = at.starts ∙ ap (λ (x : ℕ). at.q * x) power in
    record {
      j = j;
      q = at.q;
      power = is;
      positive = omega (arith, pow_pos j);
      front = omega arith;
      back = omega arith;
      next = next;
      some = omega arith;
      short = omega arith;
      full = elim at.full [ inl whole ↦ inl (omega arith) | inr end ↦ inr (omega arith) ];
      ends = omega arith;
    }

same_right : (n b l r s : ℕ) → r ≤ l → s ≤ l → b + r ≤ n → b + s ≤ n → (r ≡ l) ⊎ (b + r ≡ n) → (s ≡ l) ⊎ (b + s ≡ n)
    → r ≡ s
same_right n b l r s r_short s_short r_ends s_ends (inl p) (inl q) = omega arith
same_right n b l r s r_short s_short r_ends s_ends (inl p) (inr q) = omega arith
same_right n b l r s r_short s_short r_ends s_ends (inr p) (inl q) = omega arith
same_right n b l r s r_short s_short r_ends s_ends (inr p) (inr q) = omega arith

pub one_right : (n a l b r b2 r2 : ℕ) → 1 ≤ n → AreChildren n a l b r → AreChildren n a l b2 r2 → (b ≡ b2) × (r ≡ r2)
one_right n a l b r b2 r2 some x y =
    let k = Kids-from_AreChildren n a l b r some x in
    let m = Kids-from_AreChildren n a l b2 r2 some y in
    let same : b ≡ b2 = k.next ∙ sym m.next in
    let m_ends : b + r2 ≤ n = omega (arith, m.ends, same) in
    let m_full : (r2 ≡ l) ⊎ (b + r2 ≡ n) = rw same m.full in
    (same, same_right n b l r r2 k.short m.short k.ends m_ends k.full m_full)

pub one_left : (n a l a2 l2 b r : ℕ) → 1 ≤ n → AreChildren n a l b r → AreChildren n a2 l2 b r → (a ≡ a2) × (l ≡ l2)
one_left n a l a2 l2 b r some x y =
    let k = Kids-from_AreChildren n a l b r some x in
    let m = Kids-from_AreChildren n a2 l2 b r some y in
    let kb : b ≡ (2 * k.q + 1) * 2 ^ k.j = k.back ∙ ap (λ (p : ℕ). (2 * k.q + 1) * p) k.power in
    let mb : b ≡ (2 * m.q + 1) * 2 ^ m.j = m.back ∙ ap (λ (p : ℕ). (2 * m.q + 1) * p) m.power in
    let u = not_above b k.j m.j k.q (2 * m.q + 1) kb mb in
    let v = not_above b m.j k.j m.q (2 * k.q + 1) mb kb in
    let same : k.j ≡ m.j = omega arith in
    let lengths : l ≡ l2 = k.power ∙ ap (λ (i : ℕ). 2 ^ i) same ∙ sym m.power in
    (omega (arith, k.next, m.next), lengths)

-- no span is a left child and a right child
pub not_both : (n a c b d b2 d2 : ℕ) → 1 ≤ n → AreChildren n a c b d → AreChildren n b2 d2 a c → ⊥
not_both n a c b d b2 d2 some x y =
    let k = Kids-from_AreChildren n a c b d some x in
    let m = Kids-from_AreChildren n b2 d2 a c some y in
    let same : c ≡ d2 = elim m.full [ inl p ↦ p | inr e ↦ absurd (omega (arith, k.next, k.ends, k.some)) ] in
    let odd : a ≡ (2 * m.q + 1) * c = m.back ∙ ap (λ (p : ℕ). (2 * m.q + 1) * p) (sym same) in
    let halves = eq_of_mul-eq-mul_right c k.positive (2 * m.q + 1) (2 * k.q) (sym odd ∙ k.front) in
    absurd (omega arith)

pub one_sibling : (n a c b d b2 d2 : ℕ) → 1 ≤ n → AreChildren n a c b d ⊎ AreChildren n b d a c
    → AreChildren n a c b2 d2 ⊎ AreChildren n b2 d2 a c
    → (b ≡ b2) × (d ≡ d2)
one_sibling n a c b d b2 d2 some (inl x) (inl y) = one_right n a c b d b2 d2 some x y
one_sibling n a c b d b2 d2 some (inr x) (inr y) = one_left n b d b2 d2 a c some x y
one_sibling n a c b d b2 d2 some (inl x) (inr y) = absurd (not_both n a c b d b2 d2 some x y)
one_sibling n a c b d b2 d2 some (inr x) (inl y) = absurd (not_both n a c b2 d2 b d some y x)

-- the order of two numbers that P gives, where it is only known that P holds
le-had : (P : Type 0) (x y : ℕ) → ∥ P ∥₁ → (P → x ≤ y) → x ≤ y
le-had P x y there order =
    elim (cases_lt y x) [
      | inr le ↦ le
      | inl more ↦ absurd (not_there there (λ p. let le = order p in omega arith))
    ]

-- a span that is a subtree is known to be one
pub IsSubtree-had : (n a c : ℕ) → 1 ≤ n → ∥ IsSubtree n a c ∥₁ → IsSubtree n a c
IsSubtree-had n a c some there =
    let known = le-had (IsSubtree n a c) in
    let one : 1 ≤ c = known 1 c there (λ s. (InGrid-from_IsSubtree n some s).some) in
    let ends : a + c ≤ n = known (a + c) n there (λ s. (InGrid-from_IsSubtree n some s).ends) in
    let (k, covers, least) = next_power c one in
    let p = 2 ^ k in
    let tests : IsSubtree n a c → (1 ≤ c) × (a + c ≤ n) × (a % p ≡ 0) × ((c ≡ p) ⊎ (a + c ≡ n)) =
    λ s. tests-from_IsSubtree n a c p some (k, refl) covers (omega arith) s in
    let starts : a % p ≤ 0 = known (a % p) 0 there (λ s. omega (arith, (tests s).2)) in
    let full : (c ≡ p) ⊎ (a + c ≡ n) = elim (cases_eq c p) [
      | inl power ↦ inl power
      | inr part ↦
          let last : n ≤ a + c = known n (a + c) there
          (λ s. elim ((tests s).3) [ inl e ↦ absurd (part e) | inr e ↦ omega arith ]) in
          inr (omega arith)
    ] in
    IsSubtree-from_tests n a c p (k, refl) covers (omega arith) one ends (omega arith) full

right_child_of : {n a l r b : ℕ} → IsSubtree n a (l + r) → IsLeft (l + r) l → b ≡ a + l → IsSubtree n b r
right_child_of {n} {a} {l} {r} {b} up left next =
    let there : IsSubtree n (a + l) (l + r - l) = right_child up left in
    let rest : l + r - l ≡ r = omega arith in
    rw next (subst (λ (x : ℕ). IsSubtree n (a + l) x) rest there)

-- a span that has a sibling is a subtree, and not the whole
pub has_parent : (n : ℕ) (s t : Span) → 1 ≤ n → AreSiblings n s t → IsSubtree n s.first s.count × (s.count < n)
has_parent n s t some (inl (up, left, next)) =
    let k = Kids-from_AreChildren n _ _ _ _ some (up, left, next) in
    (left_child up left, omega (arith, k.ends, k.next, k.some))
has_parent n s t some (inr (up, left, next)) =
    let k = Kids-from_AreChildren n _ _ _ _ some (up, left, next) in
    (right_child_of up left next, omega (arith, k.ends, k.next, k.positive))

-- a span has one sibling at most
pub only_sibling : (n : ℕ) (s t u : Span) → 1 ≤ n → AreSiblings n s t → AreSiblings n s u → t ≡ u
only_sibling n s t u some x y =
    let (first_is, count_is) = one_sibling n s.first s.count t.first t.count u.first u.count some x y in
    λ i. record { first = first_is i; count = count_is i }
