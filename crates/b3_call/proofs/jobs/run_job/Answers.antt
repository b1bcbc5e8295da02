use Rattle.std.proofs.Common.{inl}
use Rattle.b3_call.proofs.jobs.run_job.Goals as goal

pub returns-in-Ok : goal.returns-in-Ok
returns-in-Ok g c =
    inl (record {
      tally = c.in-Ok.tally;
      ran = c.in-Ok.ensures.ok;
      surely = c.in-Ok.ensures.sure;
      status_is = c.status.ensures;
    })
