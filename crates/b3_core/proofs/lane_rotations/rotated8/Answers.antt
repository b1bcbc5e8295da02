use Rattle.b3_core.proofs.Rotations.{rotated-words}
use Rattle.b3_core.proofs.lane_rotations.rotated8.Goals as goal

pub returns : goal.returns
returns c = rotated-words c.args.x 8 c.args.r c.requires.some c.requires.below c.requires.wide
