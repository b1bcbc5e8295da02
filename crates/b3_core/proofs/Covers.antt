-- Subtrees of which no two are siblings: where they have each chunk of a subtree, one of them has all of it.
use Rattle.std.proofs.Common.{inl, inr, ◌≡◌, ℕ, zero, suc, ◌+◌, ◌-◌, ◌^◌, ◌<◌, ◌≤◌, arith, refl, subst}
use Rattle.std.proofs.lemmas.Bool.{cases_lt}
use Rattle.b3_core.specs.Tree.{IsLeft}
use Rattle.b3_core.specs.Subtrees.{AreChildren, IsSubtree}
use Rattle.b3_core.specs.Subtrees.IsSubtree.{whole, left_child, right_child}
use Rattle.b3_core.proofs.Grid.{InGrid-from_IsSubtree, Within, across, nested}
use Rattle.b3_core.proofs.Powers.{double, next_power}

module _ (n : ℕ) (some : 1 ≤ n) (P : ℕ → ℕ → Type 0) (tree : (a c : ℕ) → P a c
    → IsSubtree n a c) (apart : (a l b r : ℕ) → P a l → P b r → AreChildren n a l b r → ⊥) where
  -- one of the spans has chunk k
  abbrev pub HasChunk : ℕ → Type 0
  HasChunk k = (a : ℕ) × (c : ℕ) × P a c × (a ≤ k) × (k < a + c)

  -- one of the spans has all chunks of the span (A, C)
  abbrev pub HasAll : ℕ → ℕ → Type 0
  HasAll A C = (a : ℕ) × (c : ℕ) × P a c × Within A C a c

  -- two of the spans that have the two children of a subtree: one of them has the subtree, since they are
  -- not the children themselves
  both_children : (A C l : ℕ) → IsSubtree n A C → IsLeft C l → HasAll A l → HasAll (A + l) (C - l) → HasAll A C
  both_children A C l up left (a, c, p, (a_low, a_high)) (b, d, q, (b_low, b_high)) =
      let here = InGrid-from_IsSubtree n some up in
      let front = InGrid-from_IsSubtree n some (tree a c p) in
      let back = InGrid-from_IsSubtree n some (tree b d q) in
      let wide = here.some in
      let half = (InGrid-from_IsSubtree n some (left_child up left)).some in
      elim (nested n here front (omega arith, omega (arith, left.1))) [
        | inl part ↦ (a, c, p, part)
        | inr a_part ↦
            elim (nested n here back (omega (arith, left.1), omega (arith, left.1))) [
              | inl part ↦ (b, d, q, part)
              | inr b_part ↦
                  elim (cases_lt (A + l) (a + c)) [
                    | inl past ↦
                        let same = across n some up left front a_part (omega arith) past in
                        (a, c, p, (omega (arith, same.0), omega (arith, same.0, same.1)))
                    | inr a_stops ↦
                        elim (cases_lt b (A + l)) [
                          | inl before ↦
                              let same = across n some up left back b_part before (omega (arith, left.1)) in
                              (b, d, q, (omega (arith, same.0), omega (arith, same.0, same.1)))
                          | inr b_starts ↦
                              let a_is : a ≡ A = omega (arith, a_part.0) in
                              let c_is : c ≡ l = omega (arith, a_part.0) in
                              let b_is : b ≡ A + l = omega arith in
                              let d_is : d ≡ C - l = omega (arith, b_part.1, left.1) in
                              let sum : l + (C - l) ≡ C = omega (arith, left.1) in
                              let kids : AreChildren n A l (A + l) (C - l) = rw sum (up, left, refl) in
                              absurd (apart a c b d p q (rw (a_is, c_is, b_is, d_is) kids))
                        ]
                  ]
            ]
      ]

  -- a subtree of at most 2 ^ j chunks
  within : (j A C : ℕ) → IsSubtree n A C → C ≤ 2 ^ j → ((k : ℕ) → A ≤ k → k < A + C → HasChunk k) → HasAll A C
  within zero A C up small covered =
      let at = InGrid-from_IsSubtree n some up in
      let one = at.some in
      let (a, c, p, low, high) = covered A (omega arith) (omega arith) in
      (a, c, p, (low, omega arith))
  within (suc j) A C up small covered =
      elim (cases_lt (2 ^ j) C) [
        | inr fits ↦ within j A C up fits covered
        | inl big ↦
            let l = 2 ^ j in
            let left : IsLeft C l = ((j, refl), big, omega (arith, double j)) in
            let front = within j A l (left_child up left) (omega arith) (λ k low high. covered k low (omega arith)) in
            let back = within j (A + l) (C - l) (right_child up left) (omega (arith, double j))
            (λ k low high. covered k (omega arith) (omega arith)) in
            both_children A C l up left front back
      ]

  -- where the spans have each chunk of a subtree, one of them has all of it
  pub has_all : (A C : ℕ) → IsSubtree n A C → ((k : ℕ) → A ≤ k → k < A + C → HasChunk k) → HasAll A C
  has_all A C up covered =
      let at = InGrid-from_IsSubtree n some up in
      let (j, covers, least) = next_power C at.some in
      within j A C up covers covered

  -- where the spans have each chunk of the tree, the whole tree is one of them
  pub has_whole : ((k : ℕ) → k < n → HasChunk k) → P 0 n
  has_whole covered =
      let (a, c, p, (low, high)) = has_all 0 n whole (λ k from to. covered k (omega arith)) in
      let at = InGrid-from_IsSubtree n some (tree a c p) in
      let ends = at.ends in
      let first_is : a ≡ 0 = omega arith in
      let count_is : c ≡ n = omega arith in
      subst (λ (x : ℕ). P x n) first_is (subst (λ (y : ℕ). P a y) count_is p)
