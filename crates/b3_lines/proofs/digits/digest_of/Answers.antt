use Rattle.std.proofs.Common.{◌+◌, ◌*◌, ◌∙◌, [], arith, refl, slice_index}
use Rattle.std.proofs.lemmas.Bool.{false_from_ne_true}
use Rattle.std.proofs.lemmas.List.{length-set}
use Rattle.std.proofs.lemmas.List.Sums.{AllPass-from_list_all}
use Rattle.hex.specs.Hex.{is_hex_digit}
use Rattle.hex.proofs.HexLemmas.{decode_of-even}
use Rattle.hex.proofs.Pairs.{decode_done, decode_start, decode_step}
use Rattle.b3_lines.proofs.DigitValues.{hex_digit_value-below, pair_value-below}
use Rattle.b3_lines.proofs.digits.digest_of.Goals as goal

pub loop-k-init : goal.loop-k-init
loop-k-init c = record {
  room = refl;
  decoded = λ _. decode_start c.args.digits.now [];
  reached = λ _. omega arith;
}

pub loop-k-preserved : goal.loop-k-preserved
loop-k-preserved c =
    let digits = c.args.digits.now in
    let k = c.loop-k.k in
    let is_high = c.digit_value-high.ensures in
    let is_low = c.digit_value-low.ensures in
    record {
      room = length-set _ _ _ ∙ c.loop-k.invariant.room;
      decoded = λ below.
          decode_step digits c.loop-k.digest k _ (omega arith) (omega arith)
          (pair_value-below (slice_index digits (2 * k)) (slice_index digits (2 * k + 1)) (2 * k) _ _ is_high is_low
          (omega arith) (omega arith))
          (c.loop-k.invariant.decoded (omega arith));
      reached = λ each.
          let high = rw (← is_high) at (hex_digit_value-below (slice_index digits (2 * k)) (each (2 * k) 0 (omega arith))) in
          let low = rw (← is_low) at (hex_digit_value-below (slice_index digits (2 * k + 1))
          (each (2 * k + 1) 0 (omega arith))) in
          omega (arith, c.loop-k.invariant.reached each);
    }

pub returns-then-highest-ge-NO_DIGIT : goal.returns-then-highest-ge-NO_DIGIT
returns-then-highest-ge-NO_DIGIT c =
    false_from_ne_true _ (λ each.
    omega (arith, c.loop-k.invariant.reached (AllPass-from_list_all is_hex_digit c.args.digits.now each)))

pub returns : goal.returns
returns c =
    let digits = c.args.digits.now in
    decode_of-even digits (omega arith)
    ∙ decode_done digits c.loop-k.digest c.loop-k.k (omega arith) (omega arith)
    (c.loop-k.invariant.decoded (omega arith))
