use Rattle.std.proofs.Common.{rules}
use Rattle.b3_call.proofs.call.call_beside.Goals as goal

pub returns : goal.returns
returns g c = search rules
