use Rattle.std.proofs.Common.{arith}
use Rattle.std.proofs.lemmas.List.{take_rest}
use Rattle.b3_io.proofs.Gains.{gains_more}
use Rattle.b3_io.proofs.writing.write_all.Goals as goal

pub loop-rest-preserved : goal.loop-rest-preserved
loop-rest-preserved g c =
    record {
      sent = rw (take_rest c.loop-rest.rest.now c.in_ok-count.count)
          (gains_more _ _ _ _ _ c.in_ok-count.count c.loop-rest.invariant.sent c.in_ok-count.ensures.written);
      count = omega (arith, c.in_ok-count.ensures.count, c.loop-rest.invariant.count);
    }
