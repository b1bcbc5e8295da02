use Rattle.std.proofs.Common.{arith, subst}
use Rattle.std.proofs.lemmas.Bool.{eq-eqb, eqb-true}
use Rattle.std.specs.Int.{IsPowerOfTwo}
use Rattle.b3_board.proofs.Cuttings.{least_power}
use Rattle.b3_board.proofs.cutting.is_grain.Goals as goal

pub returns : goal.returns
returns c =
    let p = c.next_power_of_two.ensures in (
      λ h. (subst IsPowerOfTwo (eqb-true _ _ h) p.power, omega arith),
      λ grain.
          let most = least_power c.args.grain c.next_power_of_two.result c.args.grain p.power p.upper_bound grain.0
          (omega arith) in
          eq-eqb _ _ (omega (arith, most, p.lower_bound)),
    )
