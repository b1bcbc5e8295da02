use Rattle.std.proofs.Common.{◌≡◌, ℕ, ◌<◌, ◌≤◌, Global, IfSome, Ok, Option, arith, subst, sym, ◌∙◌}
use Rattle.std.proofs.lemmas.Result.{err_from_is_err_and}
use Rattle.std.specs.Arc.{arc_value}
use Rattle.std.specs.declared.sync.Arc.{Arc}
use Rattle.b3_crew.specs.Crews.{AheadState, IsSaid}
use Rattle.b3_io.specs.Runs.{IoState, io_state}
use Rattle.b3_io.specs.declared.items.Item.{Item}
use Rattle.b3_io.specs.declared.saying.Saying.{Saying}
use Rattle.b3_crew.proofs.CrewLemmas.{come_refused, come_taken, has_refused, under_way_over, under_way_taken}
use Rattle.b3_crew.proofs.crew_run.lead.Given.{Over}
use Rattle.b3_crew.proofs.crew_run.lead.Goals as goal

-- what was said, where it is known to what it came
said_to : (g : Over) (work : g.row.P.Denot) (ahead : AheadState) (now : IoState) (saying : Saying)
    {came is : Option (Arc (ℕ × Item) Global)} → came ≡ is
    → IsSaid g.L.RunInput.range g.L.RunInput.tasks g.L.RunInput.start (g.P.WorkItems.left work)
    (g.P.WorkItems.fits work g.L.RunInput.range.length) ahead now saying (λ entry. (arc_value {X = ℕ × Item} entry).1) (Ok came)
    → IsSaid g.L.RunInput.range g.L.RunInput.tasks g.L.RunInput.start (g.P.WorkItems.left work)
    (g.P.WorkItems.fits work g.L.RunInput.range.length) ahead now saying (λ entry. (arc_value {X = ℕ × Item} entry).1) (Ok is)
said_to g work ahead now saying is said = rw is at said

-- later than before the items that were said
later : {first before refilled said now : ℕ} → first ≤ before → refilled ≡ before → refilled < said → now ≡ said → first < now
later further refilled turn now = omega (arith, further, refilled, turn, now)

pub returns-in_err-refill-clause-led : goal.returns-in_err-refill-clause-led
returns-in_err-refill-clause-led g c =
    let p = err_from_is_err_and c.from_residual.result c.from_residual.ensures.1 in
    rw p.1 (has_refused c.items.invariant.before p.2)

pub returns-in_err-look_further-clause-led : goal.returns-in_err-look_further-clause-led
returns-in_err-look_further-clause-led g c =
    let r = c.from_residual-in_err-look_further in
    let p = err_from_is_err_and r.result r.ensures.1 in
    let said = c.say_known.new in
    let now = io_state g.S.Shelf g.O.Sink g.E.Sink c.args.site.now.shelf.now said.out said.err in
    let came = said_to g c.refill.new.work (g.A.Front.state said.ahead) now said.saying c.in-Some-2.is
    c.in_ok-entry.ensures.said in
    rw p.1 (come_refused (arc_value {X = ℕ × Item} c.in-Some-2.entry).1 came p.2)

pub items-init : goal.items-init
items-init g c = record { before = c.requires.before; further = omega arith }

pub refill-requires-clause-at : goal.refill-requires-clause-at
refill-requires-clause-at g c = c.items.invariant.before.at

pub returns-then-len-eq0-clause-led : goal.returns-then-len-eq0-clause-led
returns-then-len-eq0-clause-led g c =
    let taken = c.in_ok-refill.ensures in
    under_way_over (under_way_taken c.items.invariant.before taken.left taken.next taken.fits)
    (sym c.len.ensures ∙ c.if-len-eq0.true) taken.all

pub returns-in_err-entry-clause-led : goal.returns-in_err-entry-clause-led
returns-in_err-entry-clause-led g c =
    let r = c.from_residual-in_err-entry in
    let p = err_from_is_err_and r.result r.ensures.1 in
    rw (p.1, p.2) c.in_err-entry.ensures.said

pub returns-in-Some-2-clause-led : goal.returns-in-Some-2-clause-led
returns-in-Some-2-clause-led g c =
    let taken = c.in_ok-look_further.ensures in
    let said = c.say_known.new in
    let now = io_state g.S.Shelf g.O.Sink g.E.Sink c.args.site.now.shelf.now said.out said.err in
    come_taken (said_to g c.refill.new.work (g.A.Front.state said.ahead) now said.saying c.in-Some-2.is
    c.in_ok-entry.ensures.said) taken.left taken.next taken.fits

pub returns-in-Some-2-clause-turn : goal.returns-in-Some-2-clause-turn
returns-in-Some-2-clause-turn g c =
    let refilled = g.A.Front.state c.refill.new.ahead in
    let said = g.A.Front.state c.say_known.new.ahead in
    later c.items.invariant.further c.in_ok-refill.ensures.next
    (subst (λ came. IfSome came (λ _. refilled.next < said.next)) c.in-Some-2.is c.in_ok-entry.ensures.turn)
    c.in_ok-look_further.ensures.next

pub items-preserved : goal.items-preserved
items-preserved g c =
    let said = c.say_known.new in
    let now = io_state g.S.Shelf g.O.Sink g.E.Sink c.args.site.now.shelf.now said.out said.err in
    record {
      before = said_to g c.refill.new.work (g.A.Front.state said.ahead) now said.saying c.in_default.is
          c.in_ok-entry.ensures.said;
      further = omega (arith, c.items.invariant.further, c.in_ok-refill.ensures.next, c.say_known.ensures.further);
    }

pub items-preserved-then-not-look_at_some : goal.items-preserved-then-not-look_at_some
items-preserved-then-not-look_at_some g c =
    let said = c.say_known.new in
    let now = io_state g.S.Shelf g.O.Sink g.E.Sink c.args.site.now.shelf.now said.out said.err in
    record {
      before = said_to g c.refill.new.work (g.A.Front.state said.ahead) now said.saying c.in_default.is
          c.in_ok-entry.ensures.said;
      further = omega (arith, c.items.invariant.further, c.in_ok-refill.ensures.next, c.say_known.ensures.further);
    }

pub look_further-requires-clause-at : goal.look_further-requires-clause-at
look_further-requires-clause-at g c =
    let said = c.say_known.new in
    let now = io_state g.S.Shelf g.O.Sink g.E.Sink c.args.site.now.shelf.now said.out said.err in
    (said_to g c.refill.new.work (g.A.Front.state said.ahead) now said.saying c.in-Some-2.is c.in_ok-entry.ensures.said).at

pub look_further-requires-clause-few : goal.look_further-requires-clause-few
look_further-requires-clause-few g c = c.requires.before.few

pub look_further-requires-clause-fits : goal.look_further-requires-clause-fits
look_further-requires-clause-fits g c = c.in_ok-refill.ensures.fits

pub refill-requires-clause-few : goal.refill-requires-clause-few
refill-requires-clause-few g c = c.requires.before.few

pub refill-requires-clause-fits : goal.refill-requires-clause-fits
refill-requires-clause-fits g c = c.items.invariant.before.fitting

pub returns-then-len-eq0-clause-turn : goal.returns-then-len-eq0-clause-turn
returns-then-len-eq0-clause-turn g c = tt

pub returns-in_err-refill-clause-turn : goal.returns-in_err-refill-clause-turn
returns-in_err-refill-clause-turn g c =
    rw (err_from_is_err_and c.from_residual.result c.from_residual.ensures.1).1 tt

pub returns-in_err-entry-clause-turn : goal.returns-in_err-entry-clause-turn
returns-in_err-entry-clause-turn g c =
    let r = c.from_residual-in_err-entry in
    rw (err_from_is_err_and r.result r.ensures.1).1 tt

pub returns-in_err-look_further-clause-turn : goal.returns-in_err-look_further-clause-turn
returns-in_err-look_further-clause-turn g c =
    let r = c.from_residual-in_err-look_further in
    rw (err_from_is_err_and r.result r.ensures.1).1 tt
