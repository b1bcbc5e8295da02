-- Numbers of chunks, their binary digits, and the runs of 2 ^ level chunks in them.
use Rattle.std.proofs.Common.{◌≡◌, ℕ, zero, suc, ◌+◌, ◌-◌, ◌*◌, ◌/◌, ◌%◌, ◌^◌, ◌<◌, ◌≤◌, ◌⊎◌, inl, inr, count_ones}
use Rattle.std.proofs.Common.{refl, sym, ap, ◌∙◌, lit<, arith}
use Rattle.std.proofs.Math.Nat.{pow-suc, div-div-eq-div-mul, mul-div_cancel', mul-div_cancel_left, mul-div-le}
use Rattle.std.proofs.Math.Nat.{mul-le-mul_left, mul-mod_right, pow-le-pow_right, zero-mod}
use Rattle.std.specs.Int.{w64, trailing_zeros}
use Rattle.std.specs.Int.Count.{ones_step, trailing_of_zero}
use Rattle.std.proofs.lemmas.Bool.{cases_lt}
use Rattle.std.proofs.lemmas.Nat.Gcd.{dvd_of_mod-eq-zero}
use Rattle.std.proofs.lemmas.Nat.{ones_le_self, pow-add, pow_pos}
use Rattle.std.proofs.lemmas.Nat.Bits.{bit_at-trailing_zeros}

-- a number is even or odd
pub parity : (n : ℕ) → (n % 2 ≡ 0) ⊎ (n % 2 ≡ 1)
parity n = elim (cases_lt (n % 2) 1) [ inl h ↦ inl (omega arith) | inr h ↦ inr (omega arith) ]

-- of a number of k digits at most k are ones
pub count_ones-le : (k n : ℕ) → n < 2 ^ k → count_ones n ≤ k
count_ones-le zero n few = omega (arith, ones_le_self n)
count_ones-le (suc k) n few =
    let halves : 2 ^ suc k ≡ 2 ^ k * 2 = pow-suc 2 k in
    let rest : count_ones (n / 2) ≤ k = count_ones-le k (n / 2) (omega arith) in
    omega (arith, ones_step n)

-- one below an even number
pub count_ones-even : (n : ℕ) → 0 < n → n % 2 ≡ 0 → count_ones (n - 1) ≡ count_ones (n / 2 - 1) + 1
count_ones-even n some even =
    let pair : (n - 1) / 2 ≡ n / 2 - 1 = omega arith in
    let step = ones_step (n - 1) in
    let half = ap count_ones pair in
    omega arith

-- one below an odd number
pub count_ones-odd : (n : ℕ) → n % 2 ≡ 1 → count_ones n ≡ count_ones (n - 1) + 1
count_ones-odd n odd =
    let pair : (n - 1) / 2 ≡ n / 2 = omega arith in
    let step = ones_step (n - 1) in
    let whole = ones_step n in
    let half = ap count_ones pair in
    omega arith

-- the digits below the lowest one are zeros
pub even-below : (n i : ℕ) → 0 < n → n < 2 ^ 64 → i < trailing_zeros w64 n → n / 2 ^ i % 2 ≡ 0
even-below n i some fits below = (bit_at-trailing_zeros w64 n some fits).2 i below

-- the lowest one
pub odd-at : (n i : ℕ) → 0 < n → n < 2 ^ 64 → i ≡ trailing_zeros w64 n → n / 2 ^ i % 2 ≡ 1
odd-at n i some fits at = rw at (bit_at-trailing_zeros w64 n some fits).1

-- the number of runs of the next level
pub div-pow-suc : (total level : ℕ) → total / 2 ^ suc level ≡ total / 2 ^ level / 2
div-pow-suc total level = ap (λ p. total / p) (pow-suc 2 level) ∙ sym (div-div-eq-div-mul total (2 ^ level) 2)

-- where there is a run, its level is below the number of digits
pub level-below : (digits total level : ℕ) → total < 2 ^ digits → 0 < total / 2 ^ level → level < digits
level-below digits total level few some =
    elim (cases_lt level digits) [
      | inl below ↦ below
      | inr above ↦
          let size : 2 ^ digits ≤ 2 ^ level = pow-le-pow_right (lit< tt) above in
          let one : 2 ^ level * 1 ≤ 2 ^ level * (total / 2 ^ level) = mul-le-mul_left (2 ^ level) (omega arith) in
          let all = mul-div-le total (2 ^ level) in
          absurd (omega arith)
    ]

-- the chunks of i runs of the next level
pub chunks-suc : (level i : ℕ) → 2 ^ suc level * i ≡ 2 ^ level * (2 * i)
chunks-suc level i = ap (λ p. p * i) (pow-suc 2 level) ∙ omega arith

-- the bytes of i runs of the next level
pub bytes-suc : (level i : ℕ) → 1024 * 2 ^ suc level * i ≡ 1024 * 2 ^ level * (2 * i)
bytes-suc level i = ap (λ p. 1024 * p * i) (pow-suc 2 level) ∙ omega arith

-- half as many runs of the next level have no more bytes
pub bytes-half : (level n : ℕ) → 1024 * 2 ^ suc level * (n / 2) ≤ 1024 * 2 ^ level * n
bytes-half level n =
    let fewer : 1024 * 2 ^ level * (2 * (n / 2)) ≤ 1024 * 2 ^ level * n =
    mul-le-mul_left (1024 * 2 ^ level) (omega arith) in
    rw (bytes-suc level (n / 2)) fewer

-- runs of a higher level have no more bytes
pub bytes-above : (base rise total : ℕ) → 1024 * 2 ^ (base + rise) * (total / 2 ^ rise) ≤ 1024 * 2 ^ base * total
bytes-above base rise total =
    let all : 1024 * 2 ^ base * (2 ^ rise * (total / 2 ^ rise)) ≤ 1024 * 2 ^ base * total =
    mul-le-mul_left (1024 * 2 ^ base) (mul-div-le total (2 ^ rise)) in
    let split : 1024 * 2 ^ (base + rise) * (total / 2 ^ rise) ≡ 1024 * 2 ^ base * (2 ^ rise * (total / 2 ^ rise)) =
    ap (λ p. 1024 * p * (total / 2 ^ rise)) (pow-add 2 base rise) ∙ search arith in
    omega arith

-- a whole number of runs has as many ones as the number of its runs
pub count_ones-pow : (level n : ℕ) → count_ones (2 ^ level * n) ≡ count_ones n
count_ones-pow zero n = ap count_ones (let one : 2 ^ 0 * n ≡ n = omega arith in one)
count_ones-pow (suc level) n =
    let twice : 2 ^ suc level * n ≡ 2 * (2 ^ level * n) = ap (λ p. p * n) (pow-suc 2 level) ∙ omega arith in
    let half : 2 ^ suc level * n / 2 ≡ 2 ^ level * n = omega arith in
    omega (arith, ones_step (2 ^ suc level * n), ap count_ones half, count_ones-pow level n)

-- whole runs
pub whole-runs : (level count : ℕ) → count % 2 ^ level ≡ 0 → 2 ^ level * (count / 2 ^ level) ≡ count
whole-runs level count aligned = mul-div_cancel' (2 ^ level) (dvd_of_mod-eq-zero (2 ^ level) aligned)

-- so many bytes are whole runs where their chunks are
pub aligned-bytes : (level count : ℕ) → 1024 * count % (1024 * 2 ^ level) ≡ 0 → count % 2 ^ level ≡ 0
aligned-bytes level count aligned =
    let size = 1024 * 2 ^ level in
    let runs = 1024 * count / size in
    let whole : size * runs ≡ 1024 * count = mul-div_cancel' size (dvd_of_mod-eq-zero size aligned) in
    let same : 2 ^ level * runs ≡ count = omega (arith, whole) in
    ap (λ n. n % 2 ^ level) (sym same) ∙ mul-mod_right (2 ^ level) runs

-- the number of runs of a level, of few chunks
pub runs-below : (level count : ℕ) → count % 2 ^ level ≡ 0 → level ≤ 54 → count < 2 ^ 54
    → count / 2 ^ level < 2 ^ (54 - level)
runs-below level count aligned low few =
    elim (cases_lt (count / 2 ^ level) (2 ^ (54 - level))) [
      | inl below ↦ below
      | inr above ↦
          let digits : level + (54 - level) ≡ 54 = omega arith in
          let power : 2 ^ level * 2 ^ (54 - level) ≡ 2 ^ 54 =
          sym (pow-add 2 level (54 - level)) ∙ ap (λ k. 2 ^ k) digits in
          let whole = whole-runs level count aligned in
          let more : 2 ^ level * 2 ^ (54 - level) ≤ 2 ^ level * (count / 2 ^ level) =
          mul-le-mul_left (2 ^ level) above in
          absurd (omega (arith, power, whole, more))
    ]

-- a power of two, shifted
pub shifted : (level : ℕ) → level < 54 → (1 * 2 ^ level) % 18446744073709551616 ≡ 2 ^ level
shifted level low =
    let below : level ≤ 54 = omega arith in
    let few : 2 ^ level ≤ 2 ^ 54 = pow-le-pow_right (lit< tt) below in
    omega (arith, few)

-- one run more
pub next-run : (level count : ℕ) → count % 2 ^ level ≡ 0 → 2 ^ level * (count / 2 ^ level + 1) ≡ count + 2 ^ level
next-run level count aligned = omega (arith, whole-runs level count aligned)

-- its number is small
pub next-below : (level count : ℕ) → count % 2 ^ level ≡ 0 → level < 54 → count + 2 ^ level < 2 ^ 54
    → count / 2 ^ level + 1 < 2 ^ (54 - level)
next-below level count aligned low few =
    elim (cases_lt (count / 2 ^ level + 1) (2 ^ (54 - level))) [
      | inl below ↦ below
      | inr above ↦
          let digits : level + (54 - level) ≡ 54 = omega arith in
          let power : 2 ^ level * 2 ^ (54 - level) ≡ 2 ^ 54 =
          sym (pow-add 2 level (54 - level)) ∙ ap (λ k. 2 ^ k) digits in
          let whole = next-run level count aligned in
          let more : 2 ^ level * 2 ^ (54 - level) ≤ 2 ^ level * (count / 2 ^ level + 1) =
          mul-le-mul_left (2 ^ level) above in
          absurd (omega (arith, power, whole, more))
    ]

-- the exponent of a power of two that is no greater than a number of so many digits
pub exponent-below : (digits level n : ℕ) → 2 ^ level ≤ n → n < 2 ^ digits → level < digits
exponent-below digits level n within few =
    elim (cases_lt level digits) [
      | inl below ↦ below
      | inr above ↦
          let size : 2 ^ digits ≤ 2 ^ level = pow-le-pow_right (lit< tt) above in
          absurd (omega arith)
    ]

-- an even number of runs is a number of runs of the next level
pub aligned-suc : (level n : ℕ) → n % 2 ^ level ≡ 0 → n / 2 ^ level % 2 ≡ 0 → n % 2 ^ suc level ≡ 0
aligned-suc level n aligned even =
    let half : 2 * (n / 2 ^ level / 2) ≡ n / 2 ^ level = omega arith in
    let whole : 2 ^ suc level * (n / 2 ^ level / 2) ≡ n =
    chunks-suc level (n / 2 ^ level / 2) ∙ ap (λ k. 2 ^ level * k) half ∙ whole-runs level n aligned in
    ap (λ k. k % 2 ^ suc level) (sym whole) ∙ mul-mod_right (2 ^ suc level) (n / 2 ^ level / 2)

-- a number of runs of the next level is an even number of runs
pub even-aligned : (level n : ℕ) → n % 2 ^ suc level ≡ 0 → n / 2 ^ level % 2 ≡ 0
even-aligned level n aligned =
    let half = n / 2 ^ suc level in
    let whole : 2 ^ level * (2 * half) ≡ n = sym (chunks-suc level half) ∙ whole-runs (suc level) n aligned in
    let runs : n / 2 ^ level ≡ 2 * half =
    ap (λ k. k / 2 ^ level) (sym whole) ∙ mul-div_cancel_left (2 * half) (pow_pos level) in
    omega arith

-- a number is a whole number of runs of the levels up to its lowest binary one
pub aligned-trailing : (level n : ℕ) → n < 2 ^ 64 → level ≤ trailing_zeros w64 n → n % 2 ^ level ≡ 0
aligned-trailing zero n fits low = omega arith
aligned-trailing (suc level) n fits low =
    elim (cases_lt 0 n) [
      | inl some ↦
          aligned-suc level n (aligned-trailing level n fits (omega arith)) (even-below n level some fits (omega arith))
      | inr none ↦
          let zero_is : n ≡ 0 = omega arith in
          ap (λ k. k % 2 ^ suc level) zero_is ∙ zero-mod (2 ^ suc level)
    ]

-- a number with a lowest binary one is not 0
pub trailing-some : (n : ℕ) → trailing_zeros w64 n < 64 → 0 < n
trailing-some n below =
    elim (cases_lt 0 n) [
      | inl some ↦ some
      | inr none ↦
          let zero_is : n ≡ 0 = omega arith in
          let all : trailing_zeros w64 n ≡ 64 = ap (trailing_zeros w64) zero_is ∙ trailing_of_zero 64 in
          absurd (omega arith)
    ]

-- it is of no higher level
pub trailing-aligned : (n : ℕ) → 0 < n → n < 2 ^ 64 → n % 2 ^ suc (trailing_zeros w64 n) ≡ 0 → ⊥
trailing-aligned n some fits aligned =
    let even = even-aligned (trailing_zeros w64 n) n aligned in
    let odd = odd-at n (trailing_zeros w64 n) some fits refl in
    absurd (omega arith)
