use Rattle.std.proofs.lemmas.Result.{err_from_is_err_and}
use Rattle.b3_io.proofs.RunLemmas.{stopped_at_once}
use Rattle.b3_check.proofs.check.run_lists.Goals as goal

pub returns-in_err-checker-clause-run : goal.returns-in_err-checker-clause-run
returns-in_err-checker-clause-run g c =
    let p = err_from_is_err_and c.from_residual.result c.from_residual.ensures.1 in
    rw p.1 (stopped_at_once _ _ _ p.2)

pub returns-clause-run : goal.returns-clause-run
returns-clause-run g c = rw c.in_ok-checker.ensures at c.check_all.ensures.run
