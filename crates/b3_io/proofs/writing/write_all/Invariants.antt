use Rattle.std.proofs.Common.{◌≡◌, length}
use Rattle.b3_io.proofs.Gains.{GainsAllBut}
use Rattle.b3_io.proofs.writing.write_all.Given as goal

-- all but the rest was sent, and no write failed
abbrev pub invariant-loop-rest : goal.invariant-loop-rest
invariant-loop-rest g l =
    let held = g.K.Sink.held in
    let failures = g.K.Sink.failures in
    record {
      sent : GainsAllBut (held l.initial.sink) (held l.sink) l.bytes l.rest;
      count : failures l.sink ≡ failures l.initial.sink;
    }

abbrev pub decreases-loop-rest : goal.decreases-loop-rest
decreases-loop-rest g l = length l.rest
