use Rattle.std.proofs.Common.{◌≡◌, ◌*◌, ◌++◌, drop, length, take}
use Rattle.hex.specs.Hex.{encode_lower}
use Rattle.b3_lines.proofs.digits.write_digits.Given as goal

-- what is written and the digits of the rest make up those of the whole
abbrev pub invariant-loop-i : goal.invariant-loop-i
invariant-loop-i l = record {
  room : length l.room ≡ 2 * length l.bytes;
  written : take (2 * l.i) l.room ++ encode_lower (drop l.i l.bytes) ≡ encode_lower l.bytes;
}
