-- Lists that are read by `get_elem?`: what holds of an element, and sums.
use Rattle.std.proofs.Common.{◌≡◌, ℕ, zero, suc, ◌+◌, ◌<◌, ◌≤◌, List, [], ◌∷◌, length, set, get_or, All, refl, sym, subst, ap, arith}
use Rattle.std.specs.List.{sum_by}
use Rattle.std.proofs.lemmas.List.Elements.{All-get_or, All-head, All-tail}
use Rattle.std.proofs.lemmas.List.Sums.{get_or-le-sum_by, sum_by-cons, sum_by-set}
use mathlib.Core.Option.{some, some-injective, some-ne-none}
use lib.ListN.{get_elem?}

module _ {A : Type 0} where
  pub length_from_get_elem? : (xs : List A) (k : ℕ) (v : A) → get_elem? xs k ≡ some v → k < length xs
  length_from_get_elem? [] k v e = absurd (some-ne-none v (sym e))
  length_from_get_elem? (x ∷ xs) zero v e = omega arith
  length_from_get_elem? (x ∷ xs) (suc k) v e = omega (arith, length_from_get_elem? xs k v e)

  pub get_or_from_get_elem? : (xs : List A) (k : ℕ) (v : A) → get_elem? xs k ≡ some v → get_or xs k v ≡ v
  get_or_from_get_elem? [] k v e = refl
  get_or_from_get_elem? (x ∷ xs) zero v e = some-injective x v e
  get_or_from_get_elem? (x ∷ xs) (suc k) v e = get_or_from_get_elem? xs k v e

  pub All-get_elem? : (P : A → Type 0) (xs : List A) (k : ℕ) (v : A) → get_elem? xs k ≡ some v → All P xs → P v
  All-get_elem? P xs k v e all =
      subst P (get_or_from_get_elem? xs k v e) (All-get_or P xs k v (length_from_get_elem? xs k v e) all)

module _ {A : Type 0} (f : A → ℕ) where
  pub sum_by-set_at : (xs : List A) (k : ℕ) (v w : A) → get_elem? xs k ≡ some v
      → sum_by f (set xs k w) + f v ≡ sum_by f xs + f w
  sum_by-set_at xs k v w e =
      subst (λ (u : A). sum_by f (set xs k w) + f u ≡ sum_by f xs + f w) (get_or_from_get_elem? xs k v e)
      (sum_by-set f xs k w v (length_from_get_elem? xs k v e))

  pub at-le-sum_by : (xs : List A) (k : ℕ) (v : A) → get_elem? xs k ≡ some v → f v ≤ sum_by f xs
  at-le-sum_by xs k v e = subst (λ (u : A). f u ≤ sum_by f xs) (get_or_from_get_elem? xs k v e)
      (get_or-le-sum_by f xs k v (length_from_get_elem? xs k v e))

-- Wherever g is 0, f is. So where g of one element is all of the sum of g, f of it is all of the sum of f.
module _ {A : Type 0} (f g : A → ℕ) where
  abbrev Vanishes : A → Type 0
  Vanishes x = g x ≡ 0 → f x ≡ 0

  pub sum_by-zero : (xs : List A) → All Vanishes xs → sum_by g xs ≡ 0 → sum_by f xs ≡ 0
  sum_by-zero [] each e = refl
  sum_by-zero (x ∷ xs) each e = omega (
    arith,
    sum_by-cons f x xs,
    All-head Vanishes x xs each (omega (arith, e, sum_by-cons g x xs)),
    sum_by-zero xs (All-tail Vanishes x xs each) (omega (arith, e, sum_by-cons g x xs)),
  )

  pub sum_by-alone : (xs : List A) (k : ℕ) (v : A) → get_elem? xs k ≡ some v → All Vanishes xs → g v ≡ sum_by g xs
      → sum_by f xs ≡ f v
  sum_by-alone [] k v at each e = absurd (some-ne-none v (sym at))
  sum_by-alone (x ∷ xs) zero v at each e =
      let none : sum_by g xs ≡ 0 = omega (arith, e, ap g (some-injective x v at), sum_by-cons g x xs) in
      let rest : sum_by f xs ≡ 0 = sum_by-zero xs (All-tail Vanishes x xs each) none in
      omega (arith, sum_by-cons f x xs, ap f (some-injective x v at), rest)
  sum_by-alone (x ∷ xs) (suc k) v at each e =
      let first : g x ≡ 0 = omega (arith, e, at-le-sum_by g xs k v at, sum_by-cons g x xs) in
      let all : g v ≡ sum_by g xs = omega (arith, e, first, sum_by-cons g x xs) in
      let rest : sum_by f xs ≡ f v = sum_by-alone xs k v at (All-tail Vanishes x xs each) all in
      omega (arith, sum_by-cons f x xs, All-head Vanishes x xs each first, rest)
