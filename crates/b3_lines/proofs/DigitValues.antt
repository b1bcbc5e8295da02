-- The digits of a digest, decoded by their values.
use Rattle.std.proofs.Common.{◌≡◌, ℕ, ◌+◌, ◌*◌, ◌%◌, ◌<◌, true, Option, Some, None, Ok, refl, ap, arith}
use Rattle.std.specs.Prelude.{unwrap_or}
use Rattle.hex.specs.Hex.{digit_or_error, hex_digit_value, is_hex_digit, pair_value, value_at}

-- a digit has a value below 16
pub hex_digit_value-below : (digit : ℕ) → is_hex_digit digit ≡ true → unwrap_or (hex_digit_value digit) 16 < 16
hex_digit_value-below digit is = grind arith

-- what is below 16 is no stand-in
some-from_below : (value : Option ℕ) → unwrap_or value 16 < 16 → value ≡ Some (unwrap_or value 16)
some-from_below (Some v) below = refl
some-from_below None below = absurd (omega arith)

-- a byte with a value below 16 is the digit of that value
value_at-below : (digit at : ℕ) → unwrap_or (hex_digit_value digit) 16 < 16
    → value_at digit at ≡ Ok (unwrap_or (hex_digit_value digit) 16)
value_at-below digit at below = ap (digit_or_error digit at) (some-from_below (hex_digit_value digit) below)

-- and two of them are the digits of a byte
pub pair_value-below : (high low at x y : ℕ) → x ≡ unwrap_or (hex_digit_value high) 16
    → y ≡ unwrap_or (hex_digit_value low) 16 → x < 16 → y < 16
    → pair_value high low at ≡ Ok ((x * 16 % 256 + y) % 256)
pair_value-below high low at x y is_x is_y below_x below_y =
    let first = value_at-below high at (rw is_x at below_x) in
    let second = value_at-below low (at + 1) (rw is_y at below_y) in
    let fits : (x * 16 % 256 + y) % 256 ≡ x * 16 + y = omega arith in
    rw (fits, is_x, is_y, first, second) refl
