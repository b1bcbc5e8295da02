use Rattle.std.proofs.Common.{rules}
use Rattle.std.proofs.lemmas.Result.{err_from_is_err_and}
use Rattle.b3_crew.specs.Crews.{IsUnderWay}
use Rattle.b3_io.specs.Runs.{io_state}
use Rattle.b3_crew.proofs.CrewLemmas.{has_refused, turn_after}
use Rattle.b3_crew.proofs.crew_run.run_crew.Goals as goal

pub returns-in_err-show-clause-led : goal.returns-in_err-show-clause-led
returns-in_err-show-clause-led g c =
    let p = err_from_is_err_and c.from_residual-in_err-show.result c.from_residual-in_err-show.ensures.1 in
    let before : IsUnderWay g.L.RunInput.range g.L.RunInput.tasks g.L.RunInput.start (g.P.WorkItems.left c.args.work.now)
    (g.P.WorkItems.fits c.args.work.now g.L.RunInput.range.length) (g.A.Front.state c.say_known.new.ahead)
    (io_state g.S.Shelf g.O.Sink g.E.Sink c.args.site.now.shelf.now c.say_known.new.out c.say_known.new.err)
    c.say_known.new.saying =
    rw c.in_default.is at c.in_ok-entry.ensures.said in
    rw p.1 (has_refused before p.2)

pub returns-then-is_empty-clause-led : goal.returns-then-is_empty-clause-led
returns-then-is_empty-clause-led g c = search rules

pub returns-in-Some-clause-turn : goal.returns-in-Some-clause-turn
returns-in-Some-clause-turn g c = rw c.in-Some.is at c.in_ok-entry.ensures.turn

pub returns-in_err-entry-clause-led : goal.returns-in_err-entry-clause-led
returns-in_err-entry-clause-led g c =
    let p = err_from_is_err_and c.from_residual.result c.from_residual.ensures.1 in
    rw (p.1, p.2) c.in_err-entry.ensures.said

pub returns-clause-led : goal.returns-clause-led
returns-clause-led g c = c.lead_helpers.ensures.led

pub returns-clause-turn : goal.returns-clause-turn
returns-clause-turn g c =
    turn_after _ _ c.lead_helpers.result c.say_known.ensures.further c.in_ok-show.ensures c.lead_helpers.ensures.turn
