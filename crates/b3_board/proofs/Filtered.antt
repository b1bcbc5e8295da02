-- What a list keeps of another, by `filter_map`: each element, one by one, and sums.
use Rattle.std.proofs.Common.{◌≡◌, ℕ, zero, suc, ◌+◌, ◌<◌, List, [], ◌∷◌, length, map, get_or, Option, Some, None, arith, refl, sym, subst, ◌∙◌}
use Rattle.std.proofs.lemmas.List.Elements.{All-cons, All-contains}
use Rattle.std.proofs.lemmas.List.Sums.{sum_by-cons}
use Rattle.std.specs.List.{All, Contains, cons_option, filter_map, sum_by}
use Rattle.std.specs.Option.{option_map}

All-cons_option : {Y : Type 0} (P : Y → Type 0) (o : Option Y) (ys : List Y) → ((y : Y) → o ≡ Some y → P y) → All P ys
    → All P (cons_option o ys)
All-cons_option P None ys here rest = rest
All-cons_option P (Some y) ys here rest = All-cons P y ys (here y refl) rest

-- each element that is kept is kept of one in the list
pub All-filter_map : {X Y : Type 0} (f : X → Option Y) (P : Y → Type 0) (xs : List X) (d : X)
    → ((i : ℕ) (y : Y) → i < length xs → f (get_or xs i d) ≡ Some y → P y) → All P (filter_map f xs)
All-filter_map f P [] d each = λ k e lt. absurd (omega arith)
All-filter_map f P (x ∷ xs) d each =
    All-cons_option P (f x) (filter_map f xs) (λ y is. each 0 y (omega arith) is)
    (All-filter_map f P xs d (λ i y lt is. each (suc i) y (omega arith) is))

-- where an element of the list is kept
abbrev pub IsKeptOf : {X Y : Type 0} → (X → Option Y) → List X → X → Y → Type 0
IsKeptOf f xs d y = (i : ℕ) × (i < length xs) × (f (get_or xs i d) ≡ Some y)

pub place-from_Contains : {X Y : Type 0} (f : X → Option Y) (xs : List X) (d : X) (y : Y) → Contains (filter_map f xs) y
    → IsKeptOf f xs d y
place-from_Contains f xs d y has =
    All-contains (IsKeptOf f xs d) (filter_map f xs) y (All-filter_map f (IsKeptOf f xs d) xs d (λ i z lt is. (
      i,
      lt,
      is,
    ))) has

Contains-cons_option : {Y : Type 0} (o : Option Y) (ys : List Y) (y : Y) → Contains ys y → Contains (cons_option o ys) y
Contains-cons_option None ys y has = has
Contains-cons_option (Some x) ys y (k, lt, is) = (suc k, omega arith, is)

pub Contains-from_place : {X Y : Type 0} (f : X → Option Y) (xs : List X) (d : X) (y : Y) (i : ℕ) → i < length xs
    → f (get_or xs i d) ≡ Some y → Contains (filter_map f xs) y
Contains-from_place f [] d y i lt is = absurd (omega arith)
Contains-from_place {X} {Y} f (x ∷ xs) d y zero lt is =
    subst (λ (o : Option Y). Contains (cons_option o (filter_map f xs)) y) (sym is) (0, omega arith, refl)
Contains-from_place f (x ∷ xs) d y (suc i) lt is =
    Contains-cons_option (f x) (filter_map f xs) y (Contains-from_place f xs d y i (omega arith) is)

map-cons_option : {Y Z : Type 0} (g : Y → Z) (o : Option Y) (ys : List Y)
    → map g (cons_option o ys) ≡ cons_option (option_map g o) (map g ys)
map-cons_option g None ys = refl
map-cons_option g (Some y) ys = refl

-- the same function of what is kept
pub map-filter_map : {X Y Z : Type 0} (g : Y → Z) (f : X → Option Y) (h : X → Option Z)
    → ((x : X) → option_map g (f x) ≡ h x) → (xs : List X) → map g (filter_map f xs) ≡ filter_map h xs
map-filter_map g f h same [] = refl
map-filter_map g f h same (x ∷ xs) =
    map-cons_option g (f x) (filter_map f xs) ∙ (λ i. cons_option (same x i) (map-filter_map g f h same xs i))

-- 0 of nothing
abbrev pub or_zero : {Y : Type 0} → (Y → ℕ) → Option Y → ℕ
or_zero g None = 0
or_zero g (Some y) = g y

sum_by-cons_option : {Y : Type 0} (g : Y → ℕ) (o : Option Y) (ys : List Y)
    → sum_by g (cons_option o ys) ≡ or_zero g o + sum_by g ys
sum_by-cons_option g None ys = omega arith
sum_by-cons_option g (Some y) ys = sum_by-cons g y ys

pub sum_by-filter_map : {X Y : Type 0} (g : Y → ℕ) (f : X → Option Y) (h : X → ℕ)
    → ((x : X) → or_zero g (f x) ≡ h x) → (xs : List X)
    → sum_by g (filter_map f xs) ≡ sum_by h xs
sum_by-filter_map g f h same [] = refl
sum_by-filter_map g f h same (x ∷ xs) =
    omega (
      arith,
      sum_by-cons_option g (f x) (filter_map f xs),
      same x,
      sum_by-filter_map g f h same xs,
      sum_by-cons h x xs,
    )

-- two sums are a third where they are at each element
pub sum_by-both : {X : Type 0} (f g h : X → ℕ) (xs : List X) (d : X)
    → ((i : ℕ) → i < length xs → f (get_or xs i d) + g (get_or xs i d) ≡ h (get_or xs i d))
    → sum_by f xs + sum_by g xs ≡ sum_by h xs
sum_by-both f g h [] d each = refl
sum_by-both f g h (x ∷ xs) d each =
    let here = each 0 (omega arith) in
    let rest = sum_by-both f g h xs d (λ i lt. each (suc i) (omega arith)) in
    omega (arith, here, rest, sum_by-cons f x xs, sum_by-cons g x xs, sum_by-cons h x xs)
