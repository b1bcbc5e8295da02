use Rattle.std.proofs.Common.{◌/◌, ◌%◌, ◌^◌, map, sym, ap}
use Rattle.b3_core.proofs.Lists.{elements}
use Rattle.b3_core.proofs.lanes.counters.Goals as goal

pub returns-clause-low : goal.returns-clause-low
returns-clause-low c = sym (ap (map (λ n. n % 2 ^ 32)) (elements c.args.t.now 8 c.told-t))

pub returns-clause-high : goal.returns-clause-high
returns-clause-high c = sym (ap (map (λ n. n / 2 ^ 32)) (elements c.args.t.now 8 c.told-t))
