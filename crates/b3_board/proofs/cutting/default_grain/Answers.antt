use Rattle.std.proofs.Common.{◌≤◌, arith, refl}
use Rattle.b3_board.proofs.Cuttings.{ceil-le, least_power, max_power}
use Rattle.b3_board.proofs.cutting.default_grain.Goals as goal

pub returns-clause-grain : goal.returns-clause-grain
returns-clause-grain c =
    let p = c.next_power_of_two.ensures in
    rw c.max.ensures (
      max_power c.next_power_of_two.result 16 p.power (4, refl),
      omega (arith, p.upper_bound, c.div_ceil.ensures, c.requires.few),
    )

pub returns-clause-smallest : goal.returns-clause-smallest
returns-clause-smallest c = λ grain power low few.
    let p = c.next_power_of_two.ensures in
    let enough : c.div_ceil.result ≤ grain = rw c.div_ceil.ensures (ceil-le c.args.n grain (omega (arith, low)) few) in
    let le = least_power c.div_ceil.result c.next_power_of_two.result grain p.power p.upper_bound power enough in
    omega (arith, c.max.ensures, le, low)
