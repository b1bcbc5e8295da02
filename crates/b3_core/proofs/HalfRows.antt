-- The rows of two compressions: what each half holds after a step on whole vectors.
use Rattle.std.proofs.Common.{◌≡◌, ℕ, zero, suc, ◌+◌, ◌*◌, ◌<◌, ◌≤◌, List, [], ◌∷◌, ◌++◌, length, map, take, drop, get_or, refl}
use Rattle.std.proofs.Common.{sym, ap, ◌∙◌, arith, bit_xor, w32, ◌/◌, ◌%◌, ◌^◌, add-zero}
use Rattle.std.specs.Int.{rotate_right}
use Rattle.std.specs.List.{range_with_len}
use Rattle.std.specs.Simd.Lanes.{zip2}
use Rattle.std.proofs.lemmas.List.{take-map, drop-map, length-drop, length-take-le}
use Rattle.b3_core.specs.Compression.{compress, initial_state, initial_value, output_words, rounds}
use Rattle.b3_core.specs.Rows.{AreRows, message_of, row_words}
use Rattle.b3_core.specs.Pairs.{AreWide, AreWideRows, half, half_rows, half_chaining, of_half}
use Rattle.b3_core.proofs.Lists.{elements}
use Rattle.b3_core.proofs.RowRounds.{chaining-rows, length-zipped_row, picked, rotated_row}
use Rattle.std.proofs.lemmas.Bool.{cases_eq}
use Rattle.std.proofs.lemmas.List.{length-take}
use Rattle.b3_core.specs.Words.{words_of}
use Rattle.b3_core.specs.Chunks.{chunk_at}
use Rattle.b3_core.specs.declared.modes.Mode.{Mode}
use Rattle.b3_core.specs.Lanes.{after_blocks, full_chunk_flags}
use Rattle.b3_core.proofs.LaneChunks.{after_blocks-suc, block-of_chunk}

take-zip2 : (f : ℕ → ℕ → ℕ) (n : ℕ) (a b : List ℕ) → take n (zip2 f a b) ≡ zip2 f (take n a) (take n b)
take-zip2 f zero a b = refl
take-zip2 f (suc n) [] b = refl
take-zip2 f (suc n) (x ∷ a) [] = refl
take-zip2 f (suc n) (x ∷ a) (y ∷ b) = λ i. f x y ∷ take-zip2 f n a b i

drop-zip2 : (f : ℕ → ℕ → ℕ) (n : ℕ) (a b : List ℕ) → length a ≡ length b
    → drop n (zip2 f a b) ≡ zip2 f (drop n a) (drop n b)
drop-zip2 f zero a b same = refl
drop-zip2 f (suc n) [] [] same = refl
drop-zip2 f (suc n) [] (y ∷ b) same = absurd (omega arith)
drop-zip2 f (suc n) (x ∷ a) [] same = absurd (omega arith)
drop-zip2 f (suc n) (x ∷ a) (y ∷ b) same = drop-zip2 f n a b (omega arith)

-- a half of a vector has four words
pub length-half : (p : ℕ) (x : List ℕ) → p < 2 → length x ≡ 8 → length (half p x) ≡ 4
length-half p x p_in long = length-take-le 4 (drop (4 * p) x) (omega (arith, length-drop (4 * p) x))

pub rows-half : (p : ℕ) (v : List ℕ × List ℕ × List ℕ × List ℕ) → p < 2 → AreWideRows v → AreRows (half_rows p v)
rows-half p v p_in rows = (
  length-half p v.0 p_in rows.0,
  length-half p v.1 p_in rows.1,
  length-half p v.2 p_in rows.2,
  length-half p v.3 p_in rows.3,
)

-- an operator works on each half
pub half-zip2 : (f : ℕ → ℕ → ℕ) (p : ℕ) (a b : List ℕ) → length a ≡ length b
    → half p (zip2 f a b) ≡ zip2 f (half p a) (half p b)
half-zip2 f p a b same = ap (take 4) (drop-zip2 f (4 * p) a b same) ∙ take-zip2 f 4 (drop (4 * p) a) (drop (4 * p) b)

half-map : (f : ℕ → ℕ) (p : ℕ) (a : List ℕ) → half p (map f a) ≡ map f (half p a)
half-map f p a = ap (take 4) (drop-map f (4 * p) a) ∙ take-map f 4 (drop (4 * p) a)

pub half-rotated_row : (p r : ℕ) (a b : List ℕ) → length a ≡ length b
    → half p (rotated_row a b r) ≡ rotated_row (half p a) (half p b) r
half-rotated_row p r a b same =
    half-map (λ n. rotate_right w32 n r) p (zip2 bit_xor a b)
    ∙ ap (map (λ n. rotate_right w32 n r)) (half-zip2 bit_xor p a b same)

abbrev wide : (ℕ → ℕ) → List ℕ
wide at = map at (range_with_len 0 8)

-- two functions of a half of the rows are the same where they are so on rows that are given word by word
pub same_on_halves : (f g : ℕ → List ℕ × List ℕ × List ℕ × List ℕ → List ℕ)
    → ((a b c d : ℕ → ℕ) → f 0 (wide a, wide b, wide c, wide d) ≡ g 0 (wide a, wide b, wide c, wide d))
    → ((a b c d : ℕ → ℕ) → f 1 (wide a, wide b, wide c, wide d) ≡ g 1 (wide a, wide b, wide c, wide d))
    → (v : List ℕ × List ℕ × List ℕ × List ℕ) → AreWideRows v → (p : ℕ) → p < 2 → f p v ≡ g p v
same_on_halves f g first second v rows zero p_in =
    (λ i. f 0 (elements v.0 8 rows.0 i, elements v.1 8 rows.1 i, elements v.2 8 rows.2 i, elements v.3 8 rows.3 i))
    ∙ first (λ i. get_or v.0 i 0) (λ i. get_or v.1 i 0) (λ i. get_or v.2 i 0) (λ i. get_or v.3 i 0)
    ∙ sym (λ i. g 0 (elements v.0 8 rows.0 i, elements v.1 8 rows.1 i, elements v.2 8 rows.2 i, elements v.3 8 rows.3 i))
same_on_halves f g first second v rows (suc zero) p_in =
    (λ i. f 1 (elements v.0 8 rows.0 i, elements v.1 8 rows.1 i, elements v.2 8 rows.2 i, elements v.3 8 rows.3 i))
    ∙ second (λ i. get_or v.0 i 0) (λ i. get_or v.1 i 0) (λ i. get_or v.2 i 0) (λ i. get_or v.3 i 0)
    ∙ sym (λ i. g 1 (elements v.0 8 rows.0 i, elements v.1 8 rows.1 i, elements v.2 8 rows.2 i, elements v.3 8 rows.3 i))
same_on_halves f g first second v rows (suc (suc p)) p_in = absurd (omega arith)

-- the two rows of chaining values that the rows of two states give, and the chaining value in each half
abbrev pub folded : List ℕ × List ℕ × List ℕ × List ℕ → List ℕ × List ℕ
folded v = (zip2 bit_xor v.0 v.2, zip2 bit_xor v.1 v.3)

pub wide-folded : (v : List ℕ × List ℕ × List ℕ × List ℕ) → AreWideRows v → AreWide (folded v)
wide-folded v rows = (
  length-zipped_row bit_xor v.0 v.2 rows.0 rows.2,
  length-zipped_row bit_xor v.1 v.3 rows.1 rows.3,
)

pub half_chaining-folded : (v : List ℕ × List ℕ × List ℕ × List ℕ) (p t d : ℕ) (h m s : List ℕ)
    → AreWideRows v → p < 2
    → row_words (half_rows p v) ≡ rounds 7 s m → s ≡ initial_state h t 64 d
    → half_chaining p (folded v) ≡ take 8 (compress h m t 64 d)
unfolding compress
half_chaining-folded v p t d h m s rows p_in after before =
    (λ i. half-zip2 bit_xor p v.0 v.2 (rows.0 ∙ sym rows.2) i ++ half-zip2 bit_xor p v.1 v.3 (rows.1 ∙ sym rows.3) i)
    ∙ chaining-rows h (half_rows p v) (rows-half p v p_in rows)
    ∙ ap (λ v. take 8 (output_words v h)) (after ∙ ap (λ s. rounds 7 s m) before)

-- the states before the first round
pub initial_state-half : (p first d : ℕ) (h : List ℕ × List ℕ) → p < 2
    → row_words (half_rows p (
      h.0,
      h.1,
      take 4 initial_value ++ take 4 initial_value,
      first % 2 ^ 32 ∷ first / 2 ^ 32 ∷ 64 ∷ d ∷ (first + 1) % 2 ^ 32 ∷ (first + 1) / 2 ^ 32 ∷ 64 ∷ d ∷ [],
    ))
    ≡ initial_state (half_chaining p h) (first + p) 64 d
initial_state-half zero first d h p_in = ap (λ t. initial_state (half_chaining 0 h) t 64 d) (sym (add-zero first))
initial_state-half (suc zero) first d h p_in = refl
initial_state-half (suc (suc p)) first d h p_in = absurd (omega arith)

-- four words of each of two, and how a round takes them
abbrev both : (ℕ → ℕ → ℕ) → List ℕ
both f = map (f 0) (range_with_len 0 4) ++ map (f 1) (range_with_len 0 4)

pub arranged-halves : (a b c d : ℕ → ℕ → ℕ) (p : ℕ) → p < 2
    → message_of (row_words (half_rows p (
      picked (both a ++ both b) (0 ∷ 2 ∷ 8 ∷ 10 ∷ 4 ∷ 6 ∷ 12 ∷ 14 ∷ []),
      picked (both a ++ both b) (1 ∷ 3 ∷ 9 ∷ 11 ∷ 5 ∷ 7 ∷ 13 ∷ 15 ∷ []),
      picked (both c ++ both d) (10 ∷ 0 ∷ 2 ∷ 8 ∷ 14 ∷ 4 ∷ 6 ∷ 12 ∷ []),
      picked (both c ++ both d) (11 ∷ 1 ∷ 3 ∷ 9 ∷ 15 ∷ 5 ∷ 7 ∷ 13 ∷ []),
    )))
    ≡ map (a p) (range_with_len 0 4) ++ map (b p) (range_with_len 0 4)
    ++ map (c p) (range_with_len 0 4) ++ map (d p) (range_with_len 0 4)
arranged-halves a b c d zero p_in = refl
arranged-halves a b c d (suc zero) p_in = refl
arranged-halves a b c d (suc (suc p)) p_in = absurd (omega arith)

-- where both fit, that of each half does
pub of_half-within : (p a b n len : ℕ) → a + n ≤ len → b + n ≤ len → of_half p a b + n ≤ len
of_half-within zero a b n len first second = first
of_half-within (suc p) a b n len first second = second

-- of two places, that of each half
pub of_half-either : (p a b c : ℕ) → p < 2 → (p ≡ 0 → a ≡ c) → (p ≡ 1 → b ≡ c) → of_half p a b ≡ c
of_half-either zero a b c p_in first second = first refl
of_half-either (suc zero) a b c p_in first second = second refl
of_half-either (suc (suc p)) a b c p_in first second = absurd (omega arith)

-- words that stand in both halves
pub half_chaining-twice : (h : List ℕ) (p : ℕ) → length h ≡ 8 → p < 2
    → half_chaining p (
      map (λ i. get_or h i 0) (0 ∷ 1 ∷ 2 ∷ 3 ∷ 0 ∷ 1 ∷ 2 ∷ 3 ∷ []),
      map (λ i. get_or h i 0) (4 ∷ 5 ∷ 6 ∷ 7 ∷ 4 ∷ 5 ∷ 6 ∷ 7 ∷ []),
    ) ≡ h
half_chaining-twice h zero long p_in = sym (elements h 8 long)
half_chaining-twice h (suc zero) long p_in = sym (elements h 8 long)
half_chaining-twice h (suc (suc p)) long p_in = absurd (omega arith)

-- what holds of two and two holds of four, as far as they are needed
pub two_and_two : (P : ℕ → List ℕ → Type 0) (a b : List (List ℕ)) (n : ℕ) → n ≤ 4
    → ((j : ℕ) → j < 2 → P j (get_or a j []))
    → ((j : ℕ) → j < 2 → 2 + j < n → P (2 + j) (get_or b j []))
    → (j : ℕ) → j < n → P j (get_or (get_or a 0 [] ∷ get_or a 1 [] ∷ get_or b 0 [] ∷ get_or b 1 [] ∷ []) j [])
two_and_two P a b n room front back zero j_in = front 0 (omega arith)
two_and_two P a b n room front back (suc zero) j_in = front 1 (omega arith)
two_and_two P a b n room front back (suc (suc zero)) j_in = back 0 (omega arith) j_in
two_and_two P a b n room front back (suc (suc (suc zero))) j_in = back 1 (omega arith) j_in
two_and_two P a b n room front back (suc (suc (suc (suc j)))) j_in = absurd (omega arith)

-- one more block of the chunk in half p, which is chunk j of the bytes
pub half-next : (mode : Mode) (bytes : List ℕ) (number j k place flags : ℕ) (h m next : List ℕ)
    → place ≡ 1024 * j + 64 * k → k < 16 → place + 64 ≤ length bytes
    → h ≡ after_blocks mode number (chunk_at bytes j) k
    → m ≡ words_of (take 64 (drop place bytes))
    → flags ≡ full_chunk_flags mode k
    → next ≡ take 8 (compress h m number 64 flags)
    → next ≡ after_blocks mode number (chunk_at bytes j) (k + 1)
half-next mode bytes number j k place flags h m next place_is k_in within h_is m_is flags_is next_is =
    let chunk = chunk_at bytes j in
    let long = length-take 1024 (drop (1024 * j) bytes) in
    let rest = length-drop (1024 * j) bytes in
    next_is
    ∙ ap (λ d. take 8 (compress h m number 64 d)) flags_is
    ∙ after_blocks-suc mode number chunk k h m (omega (arith, long, rest)) (omega (arith, long)) (cases_eq k 15) h_is
    (m_is ∙ ap words_of (block-of_chunk bytes place j k k_in place_is))

-- what holds of two and of one holds of the first three of four
pub two_and_one : (P : ℕ → List ℕ → Type 0) (a b c d : List ℕ) → P 0 a → P 1 b → P 2 c
    → (j : ℕ) → j < 3 → P j (get_or (a ∷ b ∷ c ∷ d ∷ []) j [])
two_and_one P a b c d first second third zero j_in = first
two_and_one P a b c d first second third (suc zero) j_in = second
two_and_one P a b c d first second third (suc (suc zero)) j_in = third
two_and_one P a b c d first second third (suc (suc (suc j))) j_in = absurd (omega arith)
