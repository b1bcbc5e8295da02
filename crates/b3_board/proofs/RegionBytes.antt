-- The bytes of a span of a region of a source.
use Rattle.std.proofs.Common.{◌≡◌, ℕ, ◌+◌, ◌-◌, ◌*◌, ◌≤◌, min, Bool, true, false, List, length, take, drop, Option, Some, None, inl, inr, arith, sym, ap, ◌∙◌}
use Rattle.std.proofs.lemmas.Bool.{cases_lt, false≢true}
use Rattle.std.proofs.lemmas.List.{length-drop, length-take-le, drop-drop, drop-take, take-take, take_all, length-take}
use Rattle.b3_core.specs.declared.spans.Span.{Span}
use Rattle.b3_board.specs.Regions.{region}
use Rattle.b3_board.specs.Spans.{part}
use Rattle.b3_board.proofs.KnownNodes.{some_is}

is_there : Option (List ℕ) → Bool
is_there None = false
is_there (Some y) = true

none_is : (y : List ℕ) → None ≡ Some y → ⊥
unfolding is_there
none_is y e = false≢true (ap is_there e)

-- taking twice takes the fewer
take_min : (n m : ℕ) (xs : List ℕ) → take n (take m xs) ≡ take (min n m) xs
take_min n m xs =
    elim (cases_lt n m) [
      | inl less ↦ take-take n m xs (omega arith) ∙ ap (λ (k : ℕ). take k xs) (omega arith)
      | inr more ↦
          take_all n (take m xs) (omega (arith, length-take m xs))
          ∙ ap (λ (k : ℕ). take k xs) (omega arith)
    ]

region_bytes : (offset len : ℕ) (s : Span) (whole : List ℕ) → 1024 * s.first ≤ len
    → part (take len (drop offset whole)) s.first s.count
    ≡ take (min (1024 * s.count) (len - 1024 * s.first)) (drop (offset + 1024 * s.first) whole)
region_bytes offset len s whole low =
    let a = 1024 * s.first in
    let n = 1024 * s.count in
    let sum : len ≡ a + (len - a) = omega arith in
    ap (λ (k : ℕ). take n (drop a (take k (drop offset whole)))) sum
    ∙ ap (take n) (drop-take a (len - a) (drop offset whole))
    ∙ take_min n (len - a) (drop a (drop offset whole))
    ∙ ap (take (min n (len - a))) (drop-drop a offset whole)

-- what was read for a span of a region is its part, where the source tells its bytes
pub region_part : (told : Option (List ℕ)) (offset len : ℕ) (s : Span) (bytes : List ℕ)
    → ((whole : List ℕ) → told ≡ Some whole → offset + len ≤ length whole)
    → 1024 * s.first ≤ len
    → ((whole : List ℕ) → told ≡ Some whole
    → bytes ≡ take (min (1024 * s.count) (len - 1024 * s.first)) (drop (offset + 1024 * s.first) whole))
    → (all : List ℕ) → (region told offset len).told ≡ Some all
    → (length all ≡ len) × (bytes ≡ part all s.first s.count)
region_part None offset len s bytes there low read all is = absurd (none_is all is)
region_part (Some whole) offset len s bytes there low read all is =
    let same = some_is (take len (drop offset whole)) all is in
    let long = there whole (λ i. Some whole) in (
      ap length (sym same)
          ∙ length-take-le len (drop offset whole) (omega (arith, length-drop offset whole)),
      read whole (λ i. Some whole)
          ∙ sym (region_bytes offset len s whole low)
          ∙ ap (λ (xs : List ℕ). part xs s.first s.count) same,
    )
