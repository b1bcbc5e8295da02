use Rattle.std.proofs.Common.{ℕ, ◌∙◌, ap, arith, slice_index}
use Rattle.std.proofs.lemmas.List.{length-set}
use Rattle.std.proofs.lemmas.Nat.{and_mask}
use Rattle.hex.specs.Hex.{lower_digits}
use Rattle.hex.proofs.Pairs.{encode_done, encode_step}
use Rattle.b3_lines.proofs.digits.write_digits.Goals as goal

pub loop-i-preserved : goal.loop-i-preserved
loop-i-preserved c =
    let bytes = c.args.bytes.now in
    let byte : ℕ = slice_index bytes c.loop-i.i in
    record {
      room = length-set _ _ _ ∙ length-set _ _ _ ∙ c.loop-i.invariant.room;
      written = encode_step lower_digits bytes c.loop-i.room c.loop-i.i _ _ (omega arith) (omega arith)
          c.digit_of.ensures (c.digit_of-in-loop-i.ensures ∙ ap (slice_index lower_digits) (and_mask byte 4))
          c.loop-i.invariant.written;
    }

pub returns : goal.returns
returns c =
    encode_done lower_digits c.args.bytes.now c.loop-i.room c.loop-i.i (omega arith) (omega arith)
    c.loop-i.invariant.written
