use Rattle.std.proofs.Common.{◌++◌, sym}
use Rattle.b3_core.proofs.Lists.{elements}
use Rattle.b3_core.proofs.lanes.concatenated.Goals as goal

pub returns : goal.returns
returns c =
    let front = sym (elements c.args.front 8 c.requires.front) in
    let back = sym (elements c.args.back 8 c.requires.back) in
    λ i. front i ++ back i
