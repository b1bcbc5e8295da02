-- A round, with the four Gs on the columns step by step together, and then those on the diagonals; rounds one by one.
use Rattle.std.proofs.Common.{◌≡◌, ℕ, suc, List, get_or, length, map, refl, sym, ap, ◌∙◌}
use Rattle.std.specs.List.{range_with_len}
use Rattle.std.proofs.lemmas.List.{length-set}
use Rattle.b3_core.proofs.Lists.{elements}
use Rattle.b3_core.specs.Compression.{g, half_g, permuted, round, rounds}

-- the columns, step by step together, of the state v and the message words x
abbrev pub columns_together : List ℕ → (ℕ → ℕ) → List ℕ
columns_together v x =
    let v = half_g v 0 4 8 12 (x 0) 16 12 in
    let v = half_g v 1 5 9 13 (x 2) 16 12 in
    let v = half_g v 2 6 10 14 (x 4) 16 12 in
    let v = half_g v 3 7 11 15 (x 6) 16 12 in
    let v = half_g v 0 4 8 12 (x 1) 8 7 in
    let v = half_g v 1 5 9 13 (x 3) 8 7 in
    let v = half_g v 2 6 10 14 (x 5) 8 7 in
    half_g v 3 7 11 15 (x 7) 8 7

-- the diagonals
abbrev pub diagonals_together : List ℕ → (ℕ → ℕ) → List ℕ
diagonals_together v x =
    let v = half_g v 0 5 10 15 (x 8) 16 12 in
    let v = half_g v 1 6 11 12 (x 10) 16 12 in
    let v = half_g v 2 7 8 13 (x 12) 16 12 in
    let v = half_g v 3 4 9 14 (x 14) 16 12 in
    let v = half_g v 0 5 10 15 (x 9) 8 7 in
    let v = half_g v 1 6 11 12 (x 11) 8 7 in
    let v = half_g v 2 7 8 13 (x 13) 8 7 in
    half_g v 3 4 9 14 (x 15) 8 7

-- both, one G after another
abbrev columns : List ℕ → (ℕ → ℕ) → List ℕ
columns v x =
    let v = g v 0 4 8 12 (x 0) (x 1) in
    let v = g v 1 5 9 13 (x 2) (x 3) in
    let v = g v 2 6 10 14 (x 4) (x 5) in
    g v 3 7 11 15 (x 6) (x 7)

abbrev diagonals : List ℕ → (ℕ → ℕ) → List ℕ
diagonals v x =
    let v = g v 0 5 10 15 (x 8) (x 9) in
    let v = g v 1 6 11 12 (x 10) (x 11) in
    let v = g v 2 7 8 13 (x 12) (x 13) in
    g v 3 4 9 14 (x 14) (x 15)

-- the order makes no difference, as no two of the four Gs share a place
columns-together : (at x : ℕ → ℕ)
    → columns_together (map at (range_with_len 0 16)) x ≡ columns (map at (range_with_len 0 16)) x
unfolding g half_g
columns-together at x = refl

diagonals-together : (at x : ℕ → ℕ)
    → diagonals_together (map at (range_with_len 0 16)) x ≡ diagonals (map at (range_with_len 0 16)) x
unfolding g half_g
diagonals-together at x = refl

pub length-half_g : (v : List ℕ) (a b c d x r s : ℕ) → length (half_g v a b c d x r s) ≡ length v
unfolding half_g
length-half_g v a b c d x r s = length-set _ _ _ ∙ length-set _ _ _ ∙ length-set _ _ _ ∙ length-set _ _ _

length-g : (v : List ℕ) (a b c d x y : ℕ) → length (g v a b c d x y) ≡ length v
unfolding g
length-g v a b c d x y = length-half_g _ a b c d y 8 7 ∙ length-half_g v a b c d x 16 12

length-columns : (v : List ℕ) (x : ℕ → ℕ) → length (columns v x) ≡ length v
length-columns v x =
    length-g _ 3 7 11 15 _ _ ∙ length-g _ 2 6 10 14 _ _ ∙ length-g _ 1 5 9 13 _ _ ∙ length-g v 0 4 8 12 _ _

-- a whole round
pub round-together : (v m : List ℕ) → length v ≡ 16
    → diagonals_together (columns_together v (λ i. get_or m i 0)) (λ i. get_or m i 0) ≡ round v m
unfolding round
round-together v m count =
    let x : ℕ → ℕ = λ i. get_or m i 0 in
    let w : List ℕ = columns v x in
    let v_is = elements v 16 count in
    let w_is = elements w 16 (length-columns v x ∙ count) in
    let first = ap (λ u. columns_together u x) v_is ∙ columns-together (λ i. get_or v i 0) x
    ∙ ap (λ u. columns u x) (sym v_is) in
    let second = ap (λ u. diagonals_together u x) w_is ∙ diagonals-together (λ i. get_or w i 0) x
    ∙ ap (λ u. diagonals u x) (sym w_is) in
    ap (λ u. diagonals_together u x) first ∙ second

-- a round, and after it n rounds with the permuted message
pub rounds-suc : (n : ℕ) (v m : List ℕ) {u l w : List ℕ} → u ≡ round v m → l ≡ permuted m → w ≡ rounds n u l
    → w ≡ rounds (suc n) v m
unfolding rounds
rounds-suc n v m u_is l_is w_is = w_is ∙ (λ i. rounds n (u_is i) (l_is i))
