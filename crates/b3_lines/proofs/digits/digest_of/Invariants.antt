use Rattle.std.proofs.Common.{◌≡◌, ◌*◌, ◌<◌, drop, length, take}
use Rattle.std.specs.List.{AllPass}
use Rattle.hex.specs.Hex.{decode_pairs, is_hex_digit}
use Rattle.hex.proofs.Pairs.{prepend}
use Rattle.b3_lines.proofs.digits.digest_of.Given as goal

-- while no value is above 15, what is decoded and what the rest decodes to make up what the whole does; and none is
-- where all are digits
abbrev pub invariant-loop-k : goal.invariant-loop-k
invariant-loop-k l = record {
  room : length l.digest ≡ 32;
  decoded : l.highest < 16
      → decode_pairs 0 l.digits ≡ prepend (take l.k l.digest) (decode_pairs (2 * l.k) (drop (2 * l.k) l.digits));
  reached : AllPass is_hex_digit l.digits → l.highest < 16;
}
