-- The first place of a list and those after it, for work that threads share.
use Rattle.std.proofs.Common.{◌≡◌, ℕ, ◌+◌, ◌-◌, ◌<◌, List, ◌++◌, length, inl, inr, arith, sym, subst, ap, ◌∙◌, length-append}
use Rattle.std.proofs.lemmas.Bool.{cases_lt}
use Rattle.std.proofs.lemmas.List.{get_or_append_left, get_or-append_right}
use Rattle.std.specs.Prelude.{slice_index_or}
use Rattle.b3_threads.specs.Threads.{AllFrom, ChangesFrom}

in_rest : {X : Type 0} (all xs ys : List X) → all ≡ xs ++ ys → length xs ≡ 1 → (k : ℕ) (d : X)
    → slice_index_or all (1 + k) d ≡ slice_index_or ys k d
in_rest {X = X} all xs ys is one k d =
    ap (λ (l : List X). slice_index_or l (1 + k) d) is
    ∙ get_or-append_right xs ys 1 (1 + k) d one (omega arith)
    ∙ ap (λ (n : ℕ). slice_index_or ys n d) (omega arith)

in_first : {X : Type 0} (all xs ys : List X) → all ≡ xs ++ ys → (k : ℕ) (d : X) → k < length xs
    → slice_index_or all k d ≡ slice_index_or xs k d
in_first {X = X} all xs ys is k d lt =
    ap (λ (l : List X). slice_index_or l k d) is ∙ get_or_append_left xs ys d k lt

pub all_first : {X : Type 0} (P : ℕ → X → Type 0) (base : ℕ) (all xs ys : List X) → all ≡ xs ++ ys → AllFrom P base all
    → AllFrom P base xs
all_first P base all xs ys is from =
    let sum = ap length is ∙ length-append xs ys in
    record {
      room = omega (arith, sum, from.room);
      each = λ k d lt. subst (P (base + k)) (in_first all xs ys is k d lt) (from.each k d (omega (arith, sum, lt)));
    }

pub all_rest : {X : Type 0} (P : ℕ → X → Type 0) (base : ℕ) (all xs ys : List X) → all ≡ xs ++ ys → length xs ≡ 1
    → AllFrom P base all → AllFrom P (base + 1) ys
all_rest P base all xs ys is one from =
    let sum = ap length is ∙ length-append xs ys in
    record {
      room = omega (arith, sum, one, from.room);
      each = λ k d lt. subst (λ (n : ℕ). P n (slice_index_or ys k d)) {x = base + (1 + k)} (omega arith)
          (subst (P (base + (1 + k))) (in_rest all xs ys is one k d) (from.each (1 + k) d (omega (arith, sum, one, lt))));
    }

pub changes_both : {X : Type 0} (R : ℕ → X → X → Type 0) (base : ℕ) (all xs ys xs' ys' : List X) → all ≡ xs ++ ys
    → length xs ≡ 1 → ChangesFrom R base xs xs' → ChangesFrom R (base + 1) ys ys' → ChangesFrom R base all (xs' ++ ys')
changes_both {X = X} R base all xs ys xs' ys' is one first rest =
    let sum = ap length is ∙ length-append xs ys in
    let sum' = length-append xs' ys' in
    let one' : length xs' ≡ 1 = first.len ∙ one in
    let whole : List X = xs' ++ ys' in
    record {
      len = omega (arith, sum, sum', first.len, rest.len);
      each = λ k d lt. elim (cases_lt k 1) [
        | inl low ↦
            let here : k < length xs = omega (arith, one, low) in
            let here' : k < length xs' = omega (arith, one', low) in
            subst (λ (x : X). R (base + k) x (slice_index_or whole k d)) (sym (in_first all xs ys is k d here))
            (subst (R (base + k) (slice_index_or xs k d)) (sym (get_or_append_left xs' ys' d k here'))
            (first.each k d here))
        | inr high ↦
            let j = k - 1 in
            let k_is : 1 + j ≡ k = omega (arith, high) in
            subst (λ (n : ℕ). R (base + n) (slice_index_or all n d) (slice_index_or whole n d)) k_is
            (subst (λ (n : ℕ). R n (slice_index_or all (1 + j) d) (slice_index_or whole (1 + j) d)) {x = base + 1 + j}
            (omega arith)
            (subst (λ (x : X). R (base + 1 + j) x (slice_index_or whole (1 + j) d)) (sym (in_rest all xs ys is one j d))
            (subst (R (base + 1 + j) (slice_index_or ys j d)) (sym (in_rest whole xs' ys' (λ i. whole) one' j d))
            (rest.each j d (omega (arith, sum, one, lt, high))))))
      ];
    }
