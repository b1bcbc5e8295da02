-- The subtrees of a tree are the spans of a grid: those that begin at a multiple of the least power of
-- two that covers them, and have that length or end with the tree.
use Rattle.std.proofs.Common.{inl, inr, ◌⊎◌, ◌≡◌, ℕ, zero, suc, ◌+◌, ◌-◌, ◌*◌, ◌^◌, ◌<◌, ◌≤◌, ◌/◌, ◌%◌, max, arith}
use Rattle.std.proofs.Common.{refl, subst, sym, ap, ◌∙◌}
use Rattle.std.proofs.lemmas.Bool.{cases_lt}
use Rattle.std.proofs.lemmas.Nat.{div-add-mod', pow_pos}
use Rattle.std.proofs.Math.Nat.{mul-mod_left}
use Rattle.std.specs.Int.{IsPowerOfTwo}
use Rattle.b3_core.specs.Tree.{IsLeft}
use Rattle.b3_core.specs.Subtrees.{IsSubtree}
use Rattle.b3_core.specs.Subtrees.IsSubtree.{whole, left_child, right_child}
use Rattle.b3_core.proofs.Powers.{below_multiple, below_power, double, exponent, lower_multiple, next_power}

-- the span of c chunks from a on stands in the grid of n chunks: 2 ^ k is the least power of two that is
-- c or more, a is q times it, and the span is that long or ends at n
pub record InGrid (n a c : ℕ) : Type 0 where
  pub k : ℕ
  pub q : ℕ
  pub some : 1 ≤ c
  pub ends : a + c ≤ n
  pub covers : c ≤ 2 ^ k
  pub least : 2 ^ k < 2 * c
  pub starts : a ≡ q * 2 ^ k
  pub full : (c ≡ 2 ^ k) ⊎ (a + c ≡ n)

-- the spans (a, c) and (b, d) have a chunk in common
abbrev pub Meet : ℕ → ℕ → ℕ → ℕ → Type 0
Meet a c b d = (a < b + d) × (b < a + c)

-- the span (a, c) is a part of the span (b, d)
abbrev pub Within : ℕ → ℕ → ℕ → ℕ → Type 0
Within a c b d = (b ≤ a) × (a + c ≤ b + d)

module _ (n : ℕ) where
  -- the exponent of a subtree of two or more chunks is one above its left child's
  one_above : (j k c : ℕ) → 2 ^ j < c → c ≤ 2 * 2 ^ j → c ≤ 2 ^ k → 2 ^ k < 2 * c → k ≡ suc j
  one_above j k c low high covers least =
      let above = exponent j k (omega arith) in
      let below = exponent k (suc (suc j)) (omega (arith, double (suc j), double j)) in
      omega arith

  right_full : (j k a c l : ℕ) → l ≡ 2 ^ j → l < c → c ≤ 2 * l → c - l ≤ 2 ^ k → 2 ^ k < 2 * (c - l)
      → (c ≡ 2 ^ suc j) ⊎ (a + c ≡ n) → (c - l ≡ 2 ^ k) ⊎ (a + l + (c - l) ≡ n)
  right_full j k a c l is low high covers least (inl whole_power) =
      let half : c - l ≡ 2 ^ j = omega (arith, double j) in
      let above = exponent j (suc k) (omega (arith, double k)) in
      let below = exponent k (suc j) (omega (arith, double j)) in
      let same : j ≡ k = omega arith in
      inl (half ∙ ap (λ (i : ℕ). 2 ^ i) same)
  right_full j k a c l is low high covers least (inr end) = inr (omega arith)

  InGrid-right : (j a c l q : ℕ) → l ≡ 2 ^ j → l < c → c ≤ 2 * l → a + c ≤ n → a ≡ q * 2 ^ suc j
      → (c ≡ 2 ^ suc j) ⊎ (a + c ≡ n) → InGrid n (a + l) (c - l)
  InGrid-right j a c l q is low high ends begins full =
      let (k, covers, least) = next_power (c - l) (omega arith) in
      let under = exponent k (suc j) (omega (arith, double j)) in
      let e = j - k in
      let sum : j ≡ k + e = omega arith in
      let odd : a + l ≡ (2 * q + 1) * 2 ^ j = omega (arith, ap (λ (p : ℕ). q * p) (double j)) in
      let starts : a + l ≡ ((2 * q + 1) * 2 ^ e) * 2 ^ k =
      odd ∙ ap (λ (i : ℕ). (2 * q + 1) * 2 ^ i) sum ∙ lower_multiple (2 * q + 1) k e in
      record {
        k = k;
        q = (2 * q + 1) * 2 ^ e;
        some = omega arith;
        ends = omega arith;
        covers = covers;
        least = least;
        starts = starts;
        full = right_full j k a c l is low high covers least full;
      }

  pub InGrid-from_IsSubtree : {a c : ℕ} → 1 ≤ n → IsSubtree n a c → InGrid n a c
  InGrid-from_IsSubtree some whole =
      let (k, covers, least) = next_power n some in
      record {
        k = k;
        q = 0;
        some = some;
        ends = omega arith;
        covers = covers;
        least = least;
        starts = omega arith;
        full = inr (omega arith);
      }
  InGrid-from_IsSubtree some (left_child {a} {c} {l} up ((j, is), low, high)) =
      let at = InGrid-from_IsSubtree some up in
      let next : at.k ≡ suc j = one_above j at.k c (omega arith) (omega arith) at.covers at.least in
      let begins : a ≡ at.q * 2 ^ suc j = at.starts ∙ ap (λ (k : ℕ). at.q * 2 ^ k) next in
      let positive = pow_pos j in
      record {
        k = j;
        q = 2 * at.q;
        some = omega arith;
        ends = omega (arith, at.ends);
        covers = omega arith;
        least = omega arith;
        starts = omega (arith, begins, ap (λ (p : ℕ). at.q * p) (double j));
        full = inl is;
      }
  InGrid-from_IsSubtree some (right_child {a} {c} {l} up ((j, is), low, high)) =
      let at = InGrid-from_IsSubtree some up in
      let next : at.k ≡ suc j = one_above j at.k c (omega arith) (omega arith) at.covers at.least in
      let begins : a ≡ at.q * 2 ^ suc j = at.starts ∙ ap (λ (k : ℕ). at.q * 2 ^ k) next in
      let full = subst (λ (k : ℕ). (c ≡ 2 ^ k) ⊎ (a + c ≡ n)) next at.full in
      InGrid-right j a c l at.q is low high at.ends begins full

  -- of two spans of the grid that meet, the one with the lower power is a part of the other
  within_higher : {a c b d : ℕ} (low : InGrid n a c) (high : InGrid n b d) → low.k ≤ high.k → Meet a c b d
      → Within a c b d
  within_higher {a} {c} {b} {d} low high le meet =
      let p = 2 ^ low.k in
      let e = high.k - low.k in
      let sum : high.k ≡ low.k + e = omega arith in
      let begins : b ≡ (high.q * 2 ^ e) * p =
      high.starts ∙ ap (λ (i : ℕ). high.q * 2 ^ i) sum ∙ lower_multiple high.q low.k e in
      let stops : b + 2 ^ high.k ≡ ((high.q + 1) * 2 ^ e) * p =
      omega (arith, high.starts) ∙ ap (λ (i : ℕ). (high.q + 1) * 2 ^ i) sum ∙ lower_multiple (high.q + 1) low.k e in
      let from : b ≤ a = elim (cases_lt a b) [
        | inr later ↦ later
        | inl before ↦
            let gap = below_multiple low.q (high.q * 2 ^ e) p (omega (arith, low.starts, begins)) in
            absurd (omega (arith, low.starts, low.covers, begins, meet.1, gap))
      ] in
      let next = below_multiple low.q ((high.q + 1) * 2 ^ e) p (omega (
        arith,
        low.starts,
        stops,
        high.covers,
        meet.0,
      )) in
      let to : a + c ≤ b + d = elim high.full [
        | inl power ↦ omega (arith, low.starts, low.covers, stops, next, power)
        | inr end ↦ omega (arith, low.ends, end)
      ] in
      (from, to)

  -- of two spans of the grid that meet, one is a part of the other
  pub nested : {a c b d : ℕ} → InGrid n a c → InGrid n b d → Meet a c b d → Within a c b d ⊎ Within b d a c
  nested one two meet =
      elim (cases_lt two.k one.k) [
        | inr le ↦ inl (within_higher one two le meet)
        | inl lt ↦ inr (within_higher two one (omega arith) (meet.1, meet.0))
      ]

  -- a span of the grid in a subtree that begins in the left child and ends past it is the subtree
  pub across : {A C a c l : ℕ} → 1 ≤ n → IsSubtree n A C → IsLeft C l → InGrid n a c → Within a c A C
      → a < A + l → A + l < a + c → (a ≡ A) × (c ≡ C)
  across {A} {C} {a} {c} {l} some up left at inside before after =
      let front = InGrid-from_IsSubtree some (left_child up left) in
      let back = InGrid-from_IsSubtree some (right_child up left) in
      let begins : a ≡ A = elim (nested at front (omega arith, omega (arith, front.some, inside.0))) [
        | inl part ↦ absurd (omega (arith, part.1, after))
        | inr part ↦ omega (arith, part.0, inside.0)
      ] in
      let stops : A + C ≤ a + c = elim (nested at back (omega (arith, left.1, before), after)) [
        | inl part ↦ absurd (omega (arith, part.0, before))
        | inr part ↦ omega (arith, part.1, left.1)
      ] in
      (begins, omega (arith, begins, stops, inside.1))

  ends_at_n : (j A C : ℕ) → (C ≡ 2 ^ suc j) ⊎ (A + C ≡ n) → C ≤ 2 ^ j → A + C ≡ n
  ends_at_n j A C (inl power) fits = absurd (omega (arith, double j, pow_pos j))
  ends_at_n j A C (inr end) fits = end

  right_shape : (j A C : ℕ) → (C ≡ 2 ^ suc j) ⊎ (A + C ≡ n) → 2 ^ j < C
      → (C - 2 ^ j ≡ 2 ^ j) ⊎ (A + 2 ^ j + (C - 2 ^ j) ≡ n)
  right_shape j A C (inl power) big = inl (omega (arith, double j))
  right_shape j A C (inr end) big = inr (omega arith)

  -- the spans of the grid in a subtree are subtrees
  inside_subtree : (j A C a c Q : ℕ) → 1 ≤ n → IsSubtree n A C → C ≤ 2 ^ j → A ≡ Q * 2 ^ j
      → (C ≡ 2 ^ j) ⊎ (A + C ≡ n) → A + C ≤ n → Within a c A C → InGrid n a c → IsSubtree n a c
  inside_subtree zero A C a c Q one up small begins shape ends (low, high) at =
      let some = at.some in
      let same_start : a ≡ A = omega arith in
      let same_count : c ≡ C = omega arith in
      rw (same_start, same_count) up
  inside_subtree (suc j) A C a c Q one up small begins shape ends (low, high) at =
      let some = at.some in
      let even : A ≡ (2 * Q) * 2 ^ j = omega (arith, begins, ap (λ (p : ℕ). Q * p) (double j)) in
      elim (cases_lt (2 ^ j) C) [
        | inr fits ↦
            let shape2 = inr (ends_at_n j A C shape fits) in
            inside_subtree j A C a c (2 * Q) one up fits even shape2 ends (low, high) at
        | inl big ↦
            let left : IsLeft C (2 ^ j) = ((j, refl), big, omega (arith, double j)) in
            elim (cases_lt (A + 2 ^ j) (a + c)) [
              | inr in_left ↦
                  inside_subtree j A (2 ^ j) a c (2 * Q) one (left_child up left) (omega arith) even (inl refl)
                  (omega arith) (low, in_left) at
              | inl after ↦
                  elim (cases_lt a (A + 2 ^ j)) [
                    | inl before ↦
                        let same = across one up left at (low, high) before after in
                        rw (same.0, same.1) up
                    | inr in_right ↦
                        inside_subtree j (A + 2 ^ j) (C - 2 ^ j) a c (2 * Q + 1) one (right_child up left)
                        (omega (arith, double j)) (omega (arith, even)) (right_shape j A C shape big) (omega arith)
                        (in_right, omega arith) at
                  ]
            ]
      ]

  pub IsSubtree-from_InGrid : {a c : ℕ} → InGrid n a c → IsSubtree n a c
  IsSubtree-from_InGrid {a} {c} at =
      let some = at.some in
      let ends = at.ends in
      inside_subtree n 0 n a c 0 (omega arith) whole (omega (arith, below_power n)) (omega arith) (inr (omega arith))
      (omega arith) (omega arith, omega arith) at

  -- the tests of the code, at the least power of two p that is c or more
  pub IsSubtree-from_tests : (a c p : ℕ) → IsPowerOfTwo p → c ≤ p → p / 2 < max 1 c → 1 ≤ c → a + c ≤ n → a % p ≡ 0
      → (c ≡ p) ⊎ (a + c ≡ n) → IsSubtree n a c
  IsSubtree-from_tests a c p (k, is) covers least some ends starts full =
      let least_power : p < 2 * c = omega arith in
      let begins : a ≡ a / p * p = omega (arith, div-add-mod' a p, starts) in
      IsSubtree-from_InGrid record {
        k = k;
        q = a / p;
        some = some;
        ends = ends;
        covers = omega (arith, is);
        least = omega (arith, is);
        starts = begins ∙ ap (λ (x : ℕ). a / p * x) is;
        full = rw is at full;
      }

  pub tests-from_IsSubtree : (a c p : ℕ) → 1 ≤ n → IsPowerOfTwo p → c ≤ p → p / 2 < max 1 c → IsSubtree n a c
      → (1 ≤ c) × (a + c ≤ n) × (a % p ≡ 0) × ((c ≡ p) ⊎ (a + c ≡ n))
  tests-from_IsSubtree a c p some (k, is) covers least up =
      let at = InGrid-from_IsSubtree some up in
      let count = at.some in
      let low = exponent at.k (suc k) (omega (arith, double k, at.least)) in
      let high = exponent k (suc at.k) (omega (arith, double at.k, at.covers)) in
      let same : at.k ≡ k = omega arith in
      let power : 2 ^ at.k ≡ p = ap (λ (i : ℕ). 2 ^ i) same ∙ sym is in
      let starts : a ≡ at.q * p = at.starts ∙ ap (λ (x : ℕ). at.q * x) power in
      (count, at.ends, ap (λ (x : ℕ). x % p) starts ∙ mul-mod_left at.q p, rw power at at.full)
