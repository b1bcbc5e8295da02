use Rattle.std.proofs.Common.{sym}
use Rattle.b3_core.proofs.LaneWords.{lane-elements}
use Rattle.b3_core.proofs.batch.gathered.Goals as goal

pub returns : goal.returns
returns g c = sym (lane-elements c.args.i 8 c.args.lists.now c.told-lists)
