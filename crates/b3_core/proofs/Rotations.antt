-- Words of a vector rotated right: by two shifts, and by whole bytes.
use Rattle.std.proofs.Common.{◌≡◌, ℕ, zero, suc, ◌+◌, ◌-◌, ◌<◌, ◌%◌, ◌/◌, ◌*◌, ◌^◌, List, length, map, get_or}
use Rattle.std.proofs.Common.{replicate, refl, sym, ap, ◌∙◌, arith, bit_or, bit_xor, w32, Fits, ◌⊎◌, inl, inr}
use Rattle.std.specs.Int.{rotate_right}
use Rattle.std.specs.List.{concat, range_with_len}
use Rattle.std.specs.Simd.Lanes.{Each1, chunk, digits_l, number_l, pick_l, zip2}
use Rattle.std.specs.Int.Bits.{or_shifted_r}
use Rattle.std.proofs.Math.Nat.{mod-lt}
use Rattle.std.proofs.lemmas.Grind.{same_number_lists}
use Rattle.std.proofs.lemmas.List.{get_or-map, length-map}
use Rattle.std.proofs.lemmas.Simd.{Each1-all, Each1-get_or, below_from_Fits, get_or-zip2, get_or_narrower, get_or_wider}
use Rattle.std.proofs.lemmas.Simd.{length-zip2, zip2_splat, zip2_of_maps}
use Rattle.std.proofs.lemmas.Nat.{xor_lt, xor_mod, xor_shr}
use Rattle.b3_core.proofs.Lists.{below_eight, map-below}

-- two shifts rotate each of the n words
pub rotated-words : (x : List ℕ) (n r : ℕ) → 0 < r → r < 32 → length x ≡ n
    → zip2 bit_or (zip2 (λ n k. n / 2 ^ k) x (replicate n r))
    (zip2 (λ n k. (n * 2 ^ k) % 2 ^ 32) x (replicate n (32 - r)))
    ≡ map (λ n. rotate_right w32 n r) x
rotated-words x n r some below wide =
    let place : r % 32 ≡ r = omega arith in
    let back : (32 - r % 32) % 32 ≡ 32 - r = omega arith in
    zip2_of_maps bit_or (λ n. n / 2 ^ r) (λ n. (n * 2 ^ (32 - r)) % 2 ^ 32) x
    (zip2_splat (λ n k. n / 2 ^ k) x n r wide)
    (zip2_splat (λ n k. (n * 2 ^ k) % 2 ^ 32) x n (32 - r) wide)
    ∙ (λ i. map (λ n. bit_or (n / 2 ^ sym place i) ((n * 2 ^ sym back i) % 2 ^ 32)) x)

-- the bytes of eight words
abbrev bytes : List ℕ → List ℕ
bytes x = digits_l 256 32 (number_l (2 ^ 32) x)

-- each word's bytes from byte k on, and then those before it
abbrev places : ℕ → List ℕ
places k = concat (map (λ j. map (λ i. 4 * j + (k + i) % 4) (range_with_len 0 4)) (range_with_len 0 8))

moved-word : (k : ℕ) (s : List ℕ) (j : ℕ) → j < 8
    → chunk (4 * j) 4 (pick_l 0 s (places k)) ≡ map (λ i. get_or s (4 * j + (k + i) % 4) 0) (range_with_len 0 4)
moved-word k s =
    below_eight (λ j. chunk (4 * j) 4 (pick_l 0 s (places k))
    ≡ map (λ i. get_or s (4 * j + (k + i) % 4) 0) (range_with_len 0 4))
    refl refl refl refl refl refl refl refl

-- what is read of an exclusive or of bytes is a byte
xor-below : (n x y i : ℕ) → get_or (zip2 bit_xor (digits_l 256 n x) (digits_l 256 n y)) i 0 < 256
xor-below zero x y i = omega arith
xor-below (suc n) x y zero = xor_lt 8 (x % 256) (y % 256) (mod-lt x (omega arith)) (mod-lt y (omega arith))
xor-below (suc n) x y (suc i) = xor-below n (x / 256) (y / 256) i

-- byte e of the exclusive or of two words
xor-byte : (x y e : ℕ) → e < 8 → bit_xor (x / 256 ^ e % 256) (y / 256 ^ e % 256) ≡ bit_xor x y / 256 ^ e % 256
xor-byte x y =
    let shifted : (s : ℕ) → bit_xor (x / 2 ^ s % 2 ^ 8) (y / 2 ^ s % 2 ^ 8) ≡ bit_xor x y / 2 ^ s % 2 ^ 8 =
    λ s. sym (ap (λ n. n % 2 ^ 8) (xor_shr x y s) ∙ xor_mod (x / 2 ^ s) (y / 2 ^ s) 8) in
    below_eight (λ e. bit_xor (x / 256 ^ e % 256) (y / 256 ^ e % 256) ≡ bit_xor x y / 256 ^ e % 256)
    (shifted 0) (shifted 8) (shifted 16) (shifted 24) (shifted 32) (shifted 40) (shifted 48) (shifted 56)

-- byte e of word j of an exclusive or
byte_of-xor : (x y : List ℕ) (j e : ℕ) → Each1 (λ n. n < 2 ^ 32) x → Each1 (λ n. n < 2 ^ 32) y → j < 8 → e < 4
    → get_or (zip2 bit_xor (bytes x) (bytes y)) (4 * j + e) 0 ≡ bit_xor (get_or x j 0) (get_or y j 0) / 256 ^ e % 256
byte_of-xor x y j e x_below y_below j_in e_in =
    let at : 4 * j + e < 32 = omega arith in
    get_or-zip2 bit_xor (bytes x) (bytes y) (4 * j + e) 0 0 0 at at
    ∙ (λ i. bit_xor (get_or_narrower (2 ^ 32) 4 256 32 x j e refl x_below e_in at i)
    (get_or_narrower (2 ^ 32) 4 256 32 y j e refl y_below e_in at i))
    ∙ xor-byte (get_or x j 0) (get_or y j 0) e (omega arith)

-- a word from its bytes, of which byte k comes first
abbrev from_byte : ℕ → ℕ → ℕ
from_byte k z = number_l 256 (map (λ i. z / 256 ^ ((k + i) % 4) % 256) (range_with_len 0 4))

rotated-word : (k z : ℕ) → (k ≡ 1) ⊎ (k ≡ 2) → z < 2 ^ 32 → from_byte k z ≡ rotate_right w32 z (8 * k)
rotated-word k z (inl is) fits =
    let sum : from_byte 1 z ≡ z % 2 ^ 8 * 2 ^ 24 + z / 2 ^ 8 = omega (arith, fits) in
    let back : z % 2 ^ 8 * 2 ^ 24 ≡ z * 2 ^ 24 % 2 ^ 32 = omega (arith, fits) in
    rw is (sum ∙ sym (or_shifted_r (z % 2 ^ 8) 24 (z / 2 ^ 8) (omega (arith, fits))) ∙ ap (bit_or (z / 2 ^ 8)) back)
rotated-word k z (inr is) fits =
    let sum : from_byte 2 z ≡ z % 2 ^ 16 * 2 ^ 16 + z / 2 ^ 16 = omega (arith, fits) in
    let back : z % 2 ^ 16 * 2 ^ 16 ≡ z * 2 ^ 16 % 2 ^ 32 = omega (arith, fits) in
    rw is (sum ∙ sym (or_shifted_r (z % 2 ^ 16) 16 (z / 2 ^ 16) (omega (arith, fits))) ∙ ap (bit_or (z / 2 ^ 16)) back)

-- moved bytes of an exclusive or rotate each of its eight words
pub xor_rotated-bytes : (x y : List ℕ) (k r : ℕ) → r ≡ 8 * k → (k ≡ 1) ⊎ (k ≡ 2) → length x ≡ 8 → length y ≡ 8
    → Each1 (Fits w32) x → Each1 (Fits w32) y
    → digits_l (2 ^ 32) 8 (number_l 256 (pick_l 0 (zip2 bit_xor (bytes x) (bytes y)) (places k)))
    ≡ map (λ n. rotate_right w32 n r) (zip2 bit_xor x y)
xor_rotated-bytes x y k r is one_or_two x_long y_long x_fits y_fits =
    let s = zip2 bit_xor (bytes x) (bytes y) in
    let p = pick_l 0 s (places k) in
    let words = zip2 bit_xor x y in
    let x_below = below_from_Fits w32 x x_fits in
    let y_below = below_from_Fits w32 y y_fits in
    let long : length words ≡ 8 = length-zip2 bit_xor x y (x_long ∙ sym y_long) ∙ x_long in
    same_number_lists (digits_l (2 ^ 32) 8 (number_l 256 p)) (map (λ n. rotate_right w32 n r) words)
    (sym (length-map words (λ n. rotate_right w32 n r) ∙ long))
    (λ j j_in.
    let lt : j < 8 = j_in in
    let a = get_or x j 0 in
    let b = get_or y j 0 in
    let a_in : j < length x = omega (arith, x_long) in
    let b_in : j < length y = omega (arith, y_long) in
    get_or_wider 256 4 (2 ^ 32) 8 p j refl
    (Each1-all (λ i. get_or s i 0 < 256) (xor-below 32 (number_l (2 ^ 32) x) (number_l (2 ^ 32) y)) (places k)) lt
    ∙ ap (number_l 256) (moved-word k s j lt
    ∙ map-below (λ i. get_or s (4 * j + (k + i) % 4) 0) (λ i. bit_xor a b / 256 ^ ((k + i) % 4) % 256) 4
    (λ i i_in. byte_of-xor x y j ((k + i) % 4) x_below y_below lt (omega arith)))
    ∙ rotated-word k (bit_xor a b) one_or_two (xor_lt 32 a b (Each1-get_or (λ n. n < 2 ^ 32) x j 0 a_in x_below)
    (Each1-get_or (λ n. n < 2 ^ 32) y j 0 b_in y_below))
    ∙ (λ i. rotate_right w32 (sym (get_or-zip2 bit_xor x y j 0 0 0 a_in b_in) i) (sym is i))
    ∙ sym (get_or-map (λ n. rotate_right w32 n r) words j 0 0 (omega (arith, long))))
