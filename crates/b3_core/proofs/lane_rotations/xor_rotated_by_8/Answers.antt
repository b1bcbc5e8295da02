use Rattle.std.proofs.Common.{refl, inl}
use Rattle.b3_core.proofs.Rotations.{xor_rotated-bytes}
use Rattle.b3_core.proofs.lane_rotations.xor_rotated_by_8.Goals as goal

pub returns : goal.returns
returns c =
    xor_rotated-bytes c.args.x c.args.y 1 8 refl (inl refl) c.requires.x c.requires.y c.fits-x.1 c.fits-y.1
