use Rattle.std.proofs.Common.{Ok, refl}
use Rattle.std.proofs.lemmas.Result.{err_from_is_err_and}
use Rattle.b3_io.specs.Checks.{warning_report, warning_script}
use Rattle.b3_io.specs.Options.{check_limits}
use Rattle.b3_io.specs.Tallies.{no_tally}
use Rattle.b3_io.proofs.RunLemmas.{runs_surely, stopped_early_counted}
use Rattle.b3_check.proofs.Ends.{ran_ended_uncounted, stopped_ending}
use Rattle.b3_check.proofs.check.check_lists.Goals as goal

pub returns-in_err-tally-clause-run : goal.returns-in_err-tally-clause-run
returns-in_err-tally-clause-run g c =
    let p = err_from_is_err_and c.from_residual.result c.from_residual.ensures.1 in
    rw (p.1, p.2) (stopped_early_counted no_tally (warning_script c.args.options.now) c.in_err-tally.ensures.run)

pub returns-in_err-say-clause-run : goal.returns-in_err-say-clause-run
returns-in_err-say-clause-run g c =
    let p = err_from_is_err_and c.from_residual-in_err-say.result c.from_residual-in_err-say.ensures.1 in
    let options = c.args.options.now in
    let said = c.in_err-say.ensures.run (check_limits options) (warning_report options c.in_ok-tally.tally)
    c.warning.ensures in
    rw (p.1, p.2) (stopped_ending (warning_script options) c.in_ok-tally.ensures.run said)

pub returns-clause-run : goal.returns-clause-run
returns-clause-run g c =
    let options = c.args.options.now in
    let said = c.in_ok-say.ensures.run (check_limits options) (warning_report options c.in_ok-tally.tally)
    c.warning.ensures in
    ran_ended_uncounted (warning_report options) refl c.in_ok-tally.ensures.run said

pub returns-clause-sure : goal.returns-clause-sure
returns-clause-sure g c = runs_surely (check_limits c.args.options.now) _ _ _ (Ok c.in_ok-tally.tally)
    (returns-clause-run g c)
