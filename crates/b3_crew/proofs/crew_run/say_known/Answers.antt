use Rattle.std.proofs.Common.{length, ap, refl, arith}
use Rattle.std.proofs.lemmas.Result.{err_from_is_err_and}
use Rattle.std.specs.Arc.{arc_value}
use Rattle.b3_crew.specs.Crews.{IsMessageFor}
use Rattle.b3_io.specs.Runs.{io_state}
use Rattle.b3_crew.proofs.CrewLemmas.{at_within, come, come_counts, come_failures, come_room, found_for_item, has_stopped, under_way_said}
use Rattle.b3_crew.proofs.crew_run.say_known.Goals as goal

pub returns-in_default-said-clause-said : goal.returns-in_default-said-clause-said
returns-in_default-said-clause-said g c =
    come (arc_value c.in-Some.entry).1 c.items.invariant.before c.in-Some.ensures.some c.in-Some.ensures.number

pub returns-in_err-say_after-clause-said : goal.returns-in_err-say_after-clause-said
returns-in_err-say_after-clause-said g c =
    let p = err_from_is_err_and c.from_residual.result c.from_residual.ensures.1 in
    let item = (arc_value c.in-Some.entry).1 in
    let came = come item c.items.invariant.before c.in-Some.ensures.some c.in-Some.ensures.number in
    let right : IsMessageFor g.L.RunInput.start g.L.RunInput.range item c.in-Some-said.message.now c.in-Some-said.failures =
    rw c.deref-in-items.ensures at c.in-Some-said.ensures.right in
    let now = io_state g.S.Shelf g.O.Sink g.E.Sink c.args.site.now.shelf.now c.items.out c.items.err in
    let found = found_for_item c.in-Some-said.failures g.L.RunInput.start g.L.RunInput.range now c.items.saying.uncounted item
    c.args.site.now.told c.args.site.now.sure right in
    let said = c.in_err-say_after.ensures in
    rw (p.1, p.2) (has_stopped item came found c.in-Some-said.ensures.one said.0 said.1 refl)

pub items-preserved : goal.items-preserved
items-preserved g c =
    let item = (arc_value c.in-Some.entry).1 in
    let came = come item c.items.invariant.before c.in-Some.ensures.some c.in-Some.ensures.number in
    let right : IsMessageFor g.L.RunInput.start g.L.RunInput.range item c.in-Some-said.message.now c.in-Some-said.failures =
    rw c.deref-in-items.ensures at c.in-Some-said.ensures.right in
    let now = io_state g.S.Shelf g.O.Sink g.E.Sink c.args.site.now.shelf.now c.items.out c.items.err in
    let found = found_for_item c.in-Some-said.failures g.L.RunInput.start g.L.RunInput.range now c.items.saying.uncounted item
    c.args.site.now.told c.args.site.now.sure right in
    record {
      before = under_way_said item came c.requires.before.few c.requires.before.countable found c.in-Some-said.ensures.twice
          c.in-Some-said.ensures.one (rw c.count.ensures.lines c.in_ok-say_after.ensures) c.count.ensures.tally
          c.count.ensures.uncounted;
      further = omega (arith, c.items.invariant.further, c.in-Some.ensures.number);
    }

pub items-init : goal.items-init
items-init g c = record { before = c.requires.before; further = omega arith }

pub pop-requires : goal.pop-requires
pop-requires g c = omega (arith, at_within c.items.invariant.before.at, c.items.invariant.before.few)

pub returns-in_default-clause-said : goal.returns-in_default-clause-said
returns-in_default-clause-said g c = rw c.in_default.ensures.same c.items.invariant.before

pub overflow_add-saying : goal.overflow_add-saying
overflow_add-saying g c =
    let item = (arc_value c.in-Some.entry).1 in
    omega (
      arith,
      come_failures item c.in-Some-said.failures
          (come item c.items.invariant.before c.in-Some.ensures.some c.in-Some.ensures.number) c.requires.before.countable
          c.in-Some-said.ensures.one,
    )

pub count-requires : goal.count-requires
count-requires g c =
    let item = (arc_value c.in-Some.entry).1 in
    let before = c.items.invariant.before in
    let came = come item before c.in-Some.ensures.some c.in-Some.ensures.number in
    come_counts item c.in-Some-said.message.now.tally came before.few c.in-Some-said.ensures.twice

pub items-smaller : goal.items-smaller
items-smaller g c = omega (arith, ap length c.in-Some.ensures.some)

pub returns-clause-said : goal.returns-clause-said
returns-clause-said g c = c.items.invariant.before

pub say_after-requires : goal.say_after-requires
say_after-requires g c =
    let item = (arc_value c.in-Some.entry).1 in
    come_room item (come item c.items.invariant.before c.in-Some.ensures.some c.in-Some.ensures.number)
    c.requires.before.countable

pub returns-in_default-said-clause-further : goal.returns-in_default-said-clause-further
returns-in_default-said-clause-further g c = omega (arith, c.items.invariant.further, c.in-Some.ensures.number)

pub returns-in_default-said-clause-turn : goal.returns-in_default-said-clause-turn
returns-in_default-said-clause-turn g c = omega (arith, c.items.invariant.further, c.in-Some.ensures.number)

pub returns-in_err-say_after-clause-further : goal.returns-in_err-say_after-clause-further
returns-in_err-say_after-clause-further g c = omega (arith, c.items.invariant.further, c.in-Some.ensures.number)

pub returns-in_err-say_after-clause-turn : goal.returns-in_err-say_after-clause-turn
returns-in_err-say_after-clause-turn g c =
    rw (err_from_is_err_and c.from_residual.result c.from_residual.ensures.1).1 tt
