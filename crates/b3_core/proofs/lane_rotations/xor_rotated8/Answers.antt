use Rattle.std.proofs.Common.{sym, ◌∙◌, bit_xor}
use Rattle.std.proofs.lemmas.Simd.{length-zip2}
use Rattle.b3_core.proofs.lane_rotations.xor_rotated8.Goals as goal

pub rotated8-requires-clause-wide : goal.rotated8-requires-clause-wide
rotated8-requires-clause-wide c =
    length-zip2 bit_xor c.args.x c.args.y (c.requires.x ∙ sym c.requires.y) ∙ c.requires.x
