-- How often an index stands in a list, and which indexes a row of truth values has.
use Rattle.std.proofs.Common.{◌≡◌, ◌≢◌, ◌⊎◌, ℕ, zero, suc, ◌+◌, ◌<◌, ◌≤◌, Bool, true, false, ◌||◌, eqb, eq-eqb, ne_eqb, true≢false, List, [], ◌∷◌, ◌++◌, length, set, All, refl, sym, subst, ap, ◌∙◌, inl, inr, ⊎_elim, arith}
use Rattle.std.specs.List.{IsDistinct, AllByRecursion, list_any}
use Rattle.std.proofs.lemmas.List.{get_or-set_same, get_or-set_other}
use Rattle.std.proofs.lemmas.List.Elements.{All-head, All-tail}
use Rattle.std.proofs.lemmas.List.Sums.{sum_by-append, sum_by-cons, sum_by_push}
use Rattle.std.proofs.lemmas.Map.Steps.{length-le_from_distinct_below}
use mathlib.Core.Logic.{dite}
use native.Mathlib.Decide.{ℕ_discrete}
use Rattle.b3_claims.specs.Claiming.{one_if, occurrences, is_set, united}

-- one index, in a list of one
one_if-same : (i : ℕ) → one_if (eqb i i) ≡ 1
one_if-same i = ap one_if (eq-eqb i i refl)

one_if-other : (x i : ℕ) → x ≢ i → one_if (eqb x i) ≡ 0
one_if-other x i other = ap one_if (ne_eqb x i other)

pub occurrences-cons : (i x : ℕ) (xs : List ℕ) → occurrences i (x ∷ xs) ≡ one_if (eqb x i) + occurrences i xs
occurrences-cons i x xs = sum_by-cons (λ y. one_if (eqb y i)) x xs

pub occurrences-append : (i : ℕ) (xs ys : List ℕ) → occurrences i (xs ++ ys) ≡ occurrences i xs + occurrences i ys
occurrences-append i xs ys = sum_by-append (λ y. one_if (eqb y i)) xs ys

pub occurrences-push_same : (i : ℕ) (xs : List ℕ) → occurrences i (xs ++ i ∷ []) ≡ occurrences i xs + 1
occurrences-push_same i xs = omega (arith, sum_by_push (λ y. one_if (eqb y i)) xs i, one_if-same i)

pub occurrences-push_other : (i x : ℕ) (xs : List ℕ) → i ≢ x → occurrences i (xs ++ x ∷ []) ≡ occurrences i xs
occurrences-push_other i x xs other =
    omega (arith, sum_by_push (λ y. one_if (eqb y i)) xs x, one_if-other x i (λ e. other (sym e)))

-- what holds of each index of a list holds of one that stands in it
pub All-occurrences : (P : ℕ → Type 0) (i : ℕ) (xs : List ℕ) → All P xs → 0 < occurrences i xs → P i
All-occurrences P i [] all some = absurd (omega arith)
All-occurrences P i (x ∷ xs) all some = dite (ℕ_discrete x i)
    (λ same. subst P same (All-head P x xs all))
    (λ other. All-occurrences P i xs (All-tail P x xs all) (omega (arith, some, occurrences-cons i x xs, one_if-other x i other)))

pub or-true : (a b : Bool) → (a ≡ true) ⊎ (b ≡ true) → (a || b) ≡ true
or-true true b e = refl
or-true false b e = ⊎_elim (λ (x : false ≡ true). absurd (true≢false (sym x))) (λ (x : b ≡ true). x) e

pub true_from_or : (a b : Bool) → (a || b) ≡ true → (a ≡ true) ⊎ (b ≡ true)
true_from_or true b e = inl refl
true_from_or false b e = inr e

pub is_set-below : (row : List Bool) (i : ℕ) → is_set row i ≡ true → i < length row
is_set-below [] i e = absurd (true≢false (sym e))
is_set-below (x ∷ row) zero e = omega arith
is_set-below (x ∷ row) (suc i) e = omega (arith, is_set-below row i e)

pub is_set-set_same : (row : List Bool) (i : ℕ) → i < length row → is_set (set row i true) i ≡ true
is_set-set_same row i below = get_or-set_same row i true false below

-- a row that gains an index has those that it had, and no other but this one
pub is_set-set_kept : (row : List Bool) (i j : ℕ) → is_set row j ≡ true → is_set (set row i true) j ≡ true
is_set-set_kept row i j had = dite (ℕ_discrete j i)
    (λ same. subst (λ (m : ℕ). is_set (set row i true) m ≡ true) (sym same)
    (is_set-set_same row i (subst (λ (m : ℕ). m < length row) same (is_set-below row j had))))
    (λ other. get_or-set_other row i j true false other ∙ had)

pub is_set-set_other : (row : List Bool) (i j : ℕ) → j ≢ i → is_set (set row i true) j ≡ is_set row j
is_set-set_other row i j other = get_or-set_other row i j true false other

pub is_set-united : (xs ys : List Bool) (i : ℕ) → is_set (united xs ys) i ≡ (is_set xs i || is_set ys i)
is_set-united [] ys i = refl
is_set-united (true ∷ xs) [] zero = refl
is_set-united (false ∷ xs) [] zero = refl
is_set-united (x ∷ xs) [] (suc i) = or_false (is_set xs i)
  where
    or_false : (b : Bool) → b ≡ (b || false)
    or_false true = refl
    or_false false = refl
is_set-united (x ∷ xs) (y ∷ ys) zero = refl
is_set-united (x ∷ xs) (y ∷ ys) (suc i) = is_set-united xs ys i

pub is_set-united_left : (xs ys : List Bool) (i : ℕ) → is_set xs i ≡ true → is_set (united xs ys) i ≡ true
is_set-united_left xs ys i had = is_set-united xs ys i ∙ or-true (is_set xs i) (is_set ys i) (inl had)

pub is_set-united_right : (xs ys : List Bool) (i : ℕ) → is_set ys i ≡ true → is_set (united xs ys) i ≡ true
is_set-united_right xs ys i had = is_set-united xs ys i ∙ or-true (is_set xs i) (is_set ys i) (inr had)

pub has_from_united : (xs ys : List Bool) (i : ℕ) → is_set (united xs ys) i ≡ true → (is_set xs i ≡ true) ⊎ (is_set ys i ≡ true)
has_from_united xs ys i e = true_from_or (is_set xs i) (is_set ys i) (sym (is_set-united xs ys i) ∙ e)

pub length-united : (xs ys : List Bool) → length xs ≡ length ys → length (united xs ys) ≡ length xs
length-united [] [] e = refl
length-united [] (y ∷ ys) e = absurd (omega arith)
length-united (x ∷ xs) [] e = refl
length-united (x ∷ xs) (y ∷ ys) e = ap suc (length-united xs ys (omega arith))

some_times : (i : ℕ) (xs : List ℕ) → list_any (eqb i) xs ≡ true → 0 < occurrences i xs
some_times i [] e = absurd (true≢false (sym e))
some_times i (x ∷ xs) e = dite (ℕ_discrete x i)
    (λ same. omega (arith, occurrences-cons i x xs, ap one_if (eq-eqb x i same)))
    (λ other. omega (arith, occurrences-cons i x xs, some_times i xs (later other)))
  where
    later : x ≢ i → list_any (eqb i) xs ≡ true
    later other = ⊎_elim (λ (h : eqb i x ≡ true). absurd (true≢false (sym h ∙ ne_eqb i x (λ w. other (sym w)))))
        (λ (h : list_any (eqb i) xs ≡ true). h) (true_from_or (eqb i x) (list_any (eqb i) xs) e)

none_equal : (i : ℕ) (xs : List ℕ) → occurrences i xs ≡ 0 → AllByRecursion (λ y. eqb i y ≡ false) xs
none_equal i [] e = tt
none_equal i (x ∷ xs) e = (
  dite (ℕ_discrete x i)
      (λ same. absurd (omega (arith, e, occurrences-cons i x xs, ap one_if (eq-eqb x i same))))
      (λ other. ne_eqb i x (λ w. other (sym w))),
  none_equal i xs (omega (arith, e, occurrences-cons i x xs)),
)

IsDistinct_from_times : (xs : List ℕ) → ((i : ℕ) → occurrences i xs ≤ 1) → IsDistinct eqb xs
unfolding IsDistinct
IsDistinct_from_times [] once = tt
IsDistinct_from_times (x ∷ xs) once = (
  none_equal x xs (omega (arith, once x, occurrences-cons x x xs, one_if-same x)),
  IsDistinct_from_times xs (λ i. omega (arith, once i, occurrences-cons i x xs)),
)

-- a list in which no index stands twice, each of them in the row, is no longer than the row
pub length-le_from_times : (xs : List ℕ) (row : List Bool) → ((i : ℕ) → occurrences i xs ≤ one_if (is_set row i))
    → length xs ≤ length row
length-le_from_times xs row within =
    length-le_from_distinct_below xs (length row) (IsDistinct_from_times xs (λ i. at_most_one (is_set row i) (within i)))
    (λ i e. is_set-below row i (in_row (is_set row i) (omega (arith, some_times i xs e, within i))))
  where
    at_most_one : {m : ℕ} (b : Bool) → m ≤ one_if b → m ≤ 1
    at_most_one true e = e
    at_most_one false e = omega (arith, e)

    in_row : (b : Bool) → 0 < one_if b → b ≡ true
    in_row true e = refl
    in_row false e = absurd (omega (arith, e))
