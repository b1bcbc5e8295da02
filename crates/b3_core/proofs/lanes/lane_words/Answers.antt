use Rattle.std.proofs.Common.{sym}
use Rattle.b3_core.proofs.LaneWords.{lane-elements}
use Rattle.b3_core.proofs.lanes.lane_words.Goals as goal

pub returns : goal.returns
returns c = sym (lane-elements c.args.j 8 c.args.v.now c.requires.wide.0)

pub bounds-v-j-7 : goal.bounds-v-j-7
bounds-v-j-7 c = c.requires.in_range

pub bounds-v-j-8 : goal.bounds-v-j-8
bounds-v-j-8 c = c.requires.in_range
