-- The state as rows: a half of G on its four columns at once, and the diagonals as columns.
use Rattle.std.proofs.Common.{◌≡◌, ℕ, List, [], ◌∷◌, ◌++◌, length, map, take, get_or, refl, sym, ap, ◌∙◌, arith, bit_xor}
use Rattle.std.proofs.Common.{length-append, w32}
use Rattle.std.specs.Int.{rotate_right}
use Rattle.std.specs.List.{range_with_len}
use Rattle.std.specs.Simd.Lanes.{zip2}
use Rattle.std.proofs.lemmas.Simd.{length-zip2}
use Rattle.std.proofs.lemmas.List.{length-map}
use Rattle.b3_core.specs.Words.{add32}
use Rattle.b3_core.specs.Compression.{half_g, output_words, round}
use Rattle.b3_core.specs.Rows.{AreRows, diagonalized, half_columns, message_of, row_words, undiagonalized}
use Rattle.b3_core.proofs.Lists.{elements}
use Rattle.b3_core.proofs.Rounds.{diagonals_together, length-half_g, round-together}

-- sixteen words
pub length-row_words : (v : List ℕ × List ℕ × List ℕ × List ℕ) → AreRows v → length (row_words v) ≡ 16
length-row_words v rows = simp length-append (omega (arith, rows.0, rows.1, rows.2, rows.3))

-- the rows that the statements of a half of G give
abbrev pub added_rows : List ℕ → List ℕ → List ℕ → List ℕ
added_rows a b x = zip2 add32 (zip2 add32 a b) x

abbrev pub rotated_row : List ℕ → List ℕ → ℕ → List ℕ
rotated_row a b r = map (λ n. rotate_right w32 n r) (zip2 bit_xor a b)

-- they are as long as the rows that they are made of
pub length-zipped_row : {n : ℕ} (f : ℕ → ℕ → ℕ) (a b : List ℕ) → length a ≡ n → length b ≡ n → length (zip2 f a b) ≡ n
length-zipped_row f a b a_long b_long = length-zip2 f a b (a_long ∙ sym b_long) ∙ a_long

pub length-rotated_row : {n : ℕ} (a b y : List ℕ) (r : ℕ) → length a ≡ n → length b ≡ n → y ≡ rotated_row a b r
    → length y ≡ n
length-rotated_row a b y r a_long b_long y_is =
    ap length y_is
    ∙ length-map (zip2 bit_xor a b) (λ n. rotate_right w32 n r)
    ∙ length-zipped_row bit_xor a b a_long b_long

abbrev row : (ℕ → ℕ) → List ℕ
row at = map at (range_with_len 0 4)

-- two functions of rows are the same where they are so on rows that are given word by word
pub same_on_rows : (f g : List ℕ × List ℕ × List ℕ × List ℕ → List ℕ)
    → ((a b c d : ℕ → ℕ) → f (row a, row b, row c, row d) ≡ g (row a, row b, row c, row d))
    → (v : List ℕ × List ℕ × List ℕ × List ℕ) → AreRows v → f v ≡ g v
same_on_rows f g each v rows =
    (λ i. f (elements v.0 4 rows.0 i, elements v.1 4 rows.1 i, elements v.2 4 rows.2 i, elements v.3 4 rows.3 i))
    ∙ each (λ i. get_or v.0 i 0) (λ i. get_or v.1 i 0) (λ i. get_or v.2 i 0) (λ i. get_or v.3 i 0)
    ∙ sym (λ i. g (elements v.0 4 rows.0 i, elements v.1 4 rows.1 i, elements v.2 4 rows.2 i, elements v.3 4 rows.3 i))

-- all four rows after a half of G
abbrev half_rows : List ℕ × List ℕ × List ℕ × List ℕ → List ℕ → ℕ → ℕ → List ℕ
half_rows v x r s =
    let a = added_rows v.0 v.1 x in
    let d = rotated_row v.3 a r in
    let c = zip2 add32 v.2 d in
    a ++ rotated_row v.1 c s ++ c ++ d

half_rows-columns : (a b c d x : ℕ → ℕ) (r s : ℕ)
    → half_rows (row a, row b, row c, row d) (row x) r s
    ≡ half_columns (row a ++ row b ++ row c ++ row d) (row x) r s
unfolding half_g
half_rows-columns a b c d x r s = refl

-- a half of G on rows is one on each column
pub half_columns-rows : (v : List ℕ × List ℕ × List ℕ × List ℕ) (x y z : List ℕ) (r s : ℕ)
    → AreRows v → length x ≡ 4 → y ≡ rotated_row v.3 (added_rows v.0 v.1 x) r → z ≡ rotated_row v.1 (zip2 add32 v.2 y) s
    → added_rows v.0 v.1 x ++ z ++ zip2 add32 v.2 y ++ y ≡ half_columns (row_words v) x r s
half_columns-rows v x y z r s rows x_long y_is z_is =
    let x_is = elements x 4 x_long in
    (λ i. added_rows v.0 v.1 x ++ z_is i ++ zip2 add32 v.2 y ++ y)
    ∙ (λ i. added_rows v.0 v.1 x ++ rotated_row v.1 (zip2 add32 v.2 (y_is i)) s ++ zip2 add32 v.2 (y_is i) ++ y_is i)
    ∙ ap (λ x. half_rows v x r s) x_is
    ∙ same_on_rows (λ v. half_rows v (row (λ i. get_or x i 0)) r s)
    (λ v. half_columns (row_words v) (row (λ i. get_or x i 0)) r s)
    (λ a b c d. half_rows-columns a b c d (λ i. get_or x i 0) r s) v rows
    ∙ sym (ap (λ x. half_columns (row_words v) x r s) x_is)

-- the words of a row by their places in it
abbrev pub picked : List ℕ → List ℕ → List ℕ
picked m places = map (λ i. get_or m i 0) places

-- the four Gs on the diagonals are those on the columns of the other state
undiagonalized-diagonals : (at x : ℕ → ℕ)
    → undiagonalized (half_columns (half_columns (diagonalized (map at (range_with_len 0 16)))
    (x 14 ∷ x 8 ∷ x 10 ∷ x 12 ∷ []) 16 12) (x 15 ∷ x 9 ∷ x 11 ∷ x 13 ∷ []) 8 7)
    ≡ diagonals_together (map at (range_with_len 0 16)) x
unfolding half_g
undiagonalized-diagonals at x = refl

length-half_columns : (v x : List ℕ) (r s : ℕ) → length (half_columns v x r s) ≡ length v
length-half_columns v x r s =
    length-half_g _ 3 7 11 15 _ r s ∙ length-half_g _ 2 6 10 14 _ r s ∙ length-half_g _ 1 5 9 13 _ r s
    ∙ length-half_g v 0 4 8 12 _ r s

-- a whole round, with the message as rows
abbrev round_rows : List ℕ → List ℕ × List ℕ × List ℕ × List ℕ → List ℕ
round_rows v m =
    let v = diagonalized (half_columns (half_columns v m.0 16 12) m.1 8 7) in
    undiagonalized (half_columns (half_columns v m.2 16 12) m.3 8 7)

round_rows-words : (v : List ℕ) (a b c d : ℕ → ℕ) → length v ≡ 16
    → round_rows v (row a, row b, row c, row d) ≡ round v (message_of (row a ++ row b ++ row c ++ row d))
round_rows-words v a b c d count =
    let m : List ℕ = message_of (row a ++ row b ++ row c ++ row d) in
    let x : ℕ → ℕ = λ i. get_or m i 0 in
    let half : List ℕ = half_columns v (row a) 16 12 in
    let u : List ℕ = half_columns half (row b) 8 7 in
    let u_is = elements u 16 (length-half_columns half (row b) 8 7 ∙ length-half_columns v (row a) 16 12 ∙ count) in
    (λ i. undiagonalized (half_columns (half_columns (diagonalized (u_is i)) (row c) 16 12) (row d) 8 7))
    ∙ undiagonalized-diagonals (λ i. get_or u i 0) x
    ∙ ap (λ t. diagonals_together t x) (sym u_is)
    ∙ round-together v m count

pub round-rows : (v : List ℕ) (m : List ℕ × List ℕ × List ℕ × List ℕ) → length v ≡ 16 → AreRows m
    → round_rows v m ≡ round v (message_of (row_words m))
round-rows v m count rows =
    same_on_rows (round_rows v) (λ m. round v (message_of (row_words m)))
    (λ a b c d. round_rows-words v a b c d count) m rows

-- the chaining value that the rows of a state give
pub chaining-rows : (h : List ℕ) (v : List ℕ × List ℕ × List ℕ × List ℕ) → AreRows v
    → zip2 bit_xor v.0 v.2 ++ zip2 bit_xor v.1 v.3 ≡ take 8 (output_words (row_words v) h)
chaining-rows h =
    same_on_rows (λ v. zip2 bit_xor v.0 v.2 ++ zip2 bit_xor v.1 v.3) (λ v. take 8 (output_words (row_words v) h))
    (λ a b c d. refl)
