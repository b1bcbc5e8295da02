-- Powers of two and their multiples.
use Rattle.std.proofs.Common.{inl, inr, ◌≡◌, ℕ, zero, suc, ◌+◌, ◌-◌, ◌*◌, ◌/◌, ◌^◌, ◌<◌, ◌≤◌, arith, sym, ap, ◌∙◌}
use Rattle.std.proofs.Common.{shr-shr}
use Rattle.std.proofs.lemmas.Bool.{cases_lt}
use Rattle.std.proofs.lemmas.Nat.{pow-add, pow_pos, row_fits}
use Rattle.std.proofs.lemmas.Nat.Bits.{bit_at-trailing_zeros}
use Rattle.std.proofs.Math.Nat.{eq_of_mul-eq-mul_right, lt_of_mul-lt-mul_right, pow-le-pow_right, pow-suc}
use Rattle.std.specs.Int.{bit_at, trailing_zeros, w64}

pub double : (k : ℕ) → 2 ^ suc k ≡ 2 * 2 ^ k
double k = omega (arith, pow-suc 2 k)

-- a power that is below another has the lower exponent
pub exponent : (j k : ℕ) → 2 ^ j < 2 ^ k → j < k
exponent j k lt =
    elim (cases_lt j k) [
      | inl less ↦ less
      | inr more ↦ absurd (omega (arith, pow-le-pow_right {n = 2} (omega arith) more))
    ]

-- the least power of two that is n or more
pub next_power : (n : ℕ) → 1 ≤ n → (k : ℕ) × (n ≤ 2 ^ k) × (2 ^ k < 2 * n)
next_power zero h = absurd (omega arith)
next_power (suc zero) h = (0, omega arith, omega arith)
next_power (suc (suc n)) h =
    let (k, covers, least) = next_power (suc n) (omega arith) in
    elim (cases_lt (suc n) (2 ^ k)) [
      | inl room ↦ (k, omega arith, omega arith)
      | inr none ↦ (suc k, omega (arith, double k), omega (arith, double k))
    ]

-- of two multiples of p the lower ends at the higher
pub below_multiple : (q m p : ℕ) → q * p < m * p → q * p + p ≤ m * p
below_multiple q m p lt = row_fits q p m p (lt_of_mul-lt-mul_right p lt) (omega arith)

-- a multiple of a power of two is one of each lower power
pub lower_multiple : (q k e : ℕ) → q * 2 ^ (k + e) ≡ (q * 2 ^ e) * 2 ^ k
lower_multiple q k e = rw (pow-add 2 k e) (omega arith)

-- a number is below its power of two
pub below_power : (n : ℕ) → n < 2 ^ n
below_power zero = pow_pos 0
below_power (suc n) = omega (arith, double n, below_power n)

-- an odd multiple of 2 ^ j is no multiple of a higher power
pub not_above : (a j k Q q : ℕ) → a ≡ (2 * Q + 1) * 2 ^ j → a ≡ q * 2 ^ k → k ≤ j
not_above a j k Q q lowest starts =
    elim (cases_lt j k) [
      | inr under ↦ under
      | inl above ↦
          let e = k - suc j in
          let sum : k ≡ suc j + e = omega arith in
          let high : a ≡ (q * 2 ^ e) * 2 ^ suc j = starts ∙ ap (λ (i : ℕ). q * 2 ^ i) sum
          ∙ lower_multiple q (suc j) e in
          let even : (2 * Q + 1) * 2 ^ j ≡ (2 * (q * 2 ^ e)) * 2 ^ j = omega (
            arith,
            lowest,
            high,
            ap (λ (p : ℕ). q * 2 ^ e * p) (double j),
          ) in
          let same = eq_of_mul-eq-mul_right (2 ^ j) (pow_pos j) (2 * Q + 1) (2 * (q * 2 ^ e)) even in
          absurd (omega arith)
    ]

-- a number whose bits below j are clear is a multiple of 2 ^ j
clear_below : (j n : ℕ) → ((i : ℕ) → i < j → bit_at n i ≡ 0) → n ≡ n / 2 ^ j * 2 ^ j
clear_below zero n clear = omega arith
clear_below (suc j) n clear =
    let m = n / 2 ^ j in
    let before : n ≡ m * 2 ^ j = clear_below j n (λ i lt. clear i (omega arith)) in
    let even : m ≡ m / 2 * 2 = omega (arith, clear j (omega arith)) in
    let half : n / 2 ^ suc j ≡ m / 2 = ap (λ (i : ℕ). n / 2 ^ i) (omega arith) ∙ sym (shr-shr n j 1) in
    let wide : n ≡ m / 2 * 2 ^ suc j = omega (
      arith,
      before,
      ap (λ (x : ℕ). x * 2 ^ j) even,
      ap (λ (p : ℕ). m / 2 * p) (double j),
    ) in
    wide ∙ ap (λ (x : ℕ). x * 2 ^ suc j) (sym half)

-- a number that is not 0 is an odd multiple of its lowest bit
pub lowest_bit : (a : ℕ) → 0 < a → a < 2 ^ 64
    → (q : ℕ) × (a ≡ (2 * q + 1) * 2 ^ trailing_zeros w64 a) × (trailing_zeros w64 a < 64)
lowest_bit a some fits =
    let (small, set, clear) = bit_at-trailing_zeros w64 a some fits in
    let j = trailing_zeros w64 a in
    let m = a / 2 ^ j in
    let odd : m ≡ 2 * (m / 2) + 1 = omega (arith, set) in
    (m / 2, clear_below j a clear ∙ ap (λ (x : ℕ). x * 2 ^ j) odd, small)
