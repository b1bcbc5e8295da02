use Rattle.std.proofs.Common.{ℕ, ◌<◌, IfOk, IfSome, arith, refl, subst}
use Rattle.std.proofs.lemmas.Result.{err_from_is_err_and}
use Rattle.std.specs.Arc.{arc_value}
use Rattle.b3_devices.specs.Devices.{io_state_of}
use Rattle.b3_io.specs.declared.items.Item.{Item}
use Rattle.b3_crew.proofs.CrewLemmas.{at_within, counted_state, has_refused, led_counted, led_fits, led_popped, under_way_taken}
use Rattle.b3_check.proofs.engine.Engine.next_in_turn.Goals as goal

pub returns-in_err-take_items-clause-led : goal.returns-in_err-take_items-clause-led
returns-in_err-take_items-clause-led g c =
    let p = err_from_is_err_and c.from_residual.result c.from_residual.ensures.1 in
    rw p.1 (has_refused c.requires.before p.2)

pub returns-then-not-is_settled-clause-led : goal.returns-then-not-is_settled-clause-led
returns-then-not-is_settled-clause-led g c =
    let taken = c.in_ok-take_items.ensures in
    led_popped c.pop.new.self (λ entry. (arc_value {X = ℕ × Item} entry).1) c.pop.result
    (under_way_taken c.requires.before taken.left taken.next taken.fits) taken.all c.pop.ensures.none c.pop.ensures.some
    c.pop.ensures.number

pub count_failures-requires : goal.count_failures-requires
count_failures-requires g c =
    let new = c.lead_crew-led.new in
    led_fits g.L.RunInput.range g.L.RunInput.tasks (g.P.WorkItems.left new.work) g.L.RunInput.start
    (io_state_of g.S.Shelf g.O.Sink g.E.Sink new.devices) (g.P.WorkItems.fits new.work g.L.RunInput.range.length) new.ahead
    new.saying (λ entry. (arc_value {X = ℕ × Item} entry).1) c.lead_crew-led.result c.lead_crew-led.ensures.led
    c.requires.before.countable

pub returns-clause-led : goal.returns-clause-led
returns-clause-led g c =
    let new = c.lead_crew-led.new in
    let counted = c.count_failures.ensures in
    led_counted g.L.RunInput.range g.L.RunInput.tasks (g.P.WorkItems.left new.work) g.L.RunInput.start
    (io_state_of g.S.Shelf g.O.Sink g.E.Sink new.devices) (g.P.WorkItems.fits new.work g.L.RunInput.range.length) new.ahead
    new.saying (λ entry. (arc_value {X = ℕ × Item} entry).1) c.lead_crew-led.result _ c.lead_crew-led.ensures.led
    (counted_state _ _ new.saying.uncounted counted.told counted.still_sure counted.count refl refl)

pub pop-requires : goal.pop-requires
pop-requires g c =
    omega (arith, c.in_ok-take_items.ensures.next, at_within c.requires.before.at, c.requires.before.few)

pub returns-clause-turn : goal.returns-clause-turn
returns-clause-turn g c =
    let led = c.lead_crew-led in
    subst (λ first. IfOk led.result (λ came. IfSome came (λ _. first < led.new.ahead.next))) c.in_ok-take_items.ensures.next
    led.ensures.turn
