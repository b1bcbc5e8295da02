use Rattle.std.proofs.Common.{◌≡◌, ℕ, ◌+◌, ◌*◌, ◌-◌, ◌<◌, ◌≤◌, List, [], Global, IfSome, None, Ok, Option, Some, arith, length, refl, subst, ◌∙◌}
use Rattle.std.proofs.lemmas.Result.{err_from_is_err_and}
use Rattle.std.specs.Arc.{arc_value}
use Rattle.std.specs.declared.sync.Arc.{Arc}
use Rattle.b3_devices.specs.Devices.{io_state_of}
use Rattle.b3_crew.specs.Crews.{AheadState, HasCome, IsAt, IsLed, SoFar}
use Rattle.b3_io.specs.Owing.{on_out}
use Rattle.b3_io.specs.Runs.{Broke, IoState, Ran, Stopped, Went}
use Rattle.b3_io.specs.Scripts.{Report, Script}
use Rattle.b3_io.specs.Tasks.{Task, counted, tasks_script}
use Rattle.b3_io.specs.declared.fault.RunFault.{RunFault}
use Rattle.b3_io.specs.declared.fault.RunFault.TheVariants.{WriteFault}
use Rattle.b3_io.specs.declared.options.Limits.{Limits}
use Rattle.b3_io.specs.declared.output_range.OutputRange.{OutputRange}
use Rattle.b3_io.specs.declared.tally.Tally.{Tally}
use Rattle.b3_io.specs.declared.items.Item.{Item}
use Rattle.b3_io.specs.declared.saying.Saying.{Saying}
use Rattle.b3_crew.proofs.CrewLemmas.{at_within, so_far_counted, so_far_uncounted, stopped_counted}
use Rattle.b3_crew.proofs.TaskLemmas.{so_far_all, so_far_last_room, so_far_least, so_far_least_next, so_far_unwritten}
use Rattle.b3_check.proofs.engine.Engine.do_items.Given.{Over}
use Rattle.b3_check.proofs.engine.Engine.do_items.Goals as goal

-- the run came to an item
came_to : (g : Over) (work : g.row.P.Denot) (ahead : AheadState) (now : IoState) (saying : Saying) (item : ℕ × Item)
    {came : Option (Arc (ℕ × Item) Global)} {entry : Arc (ℕ × Item) Global} → came ≡ Some entry → item ≡ arc_value entry
    → IsLed g.L.RunInput.range g.L.RunInput.tasks g.L.RunInput.start (g.P.WorkItems.left work)
    (g.P.WorkItems.fits work g.L.RunInput.range.length) ahead now saying (λ entry. (arc_value {X = ℕ × Item} entry).1) (Ok came)
    → HasCome g.L.RunInput.range g.L.RunInput.tasks g.L.RunInput.start (g.P.WorkItems.left work)
    (g.P.WorkItems.fits work g.L.RunInput.range.length) ahead now saying item.1
came_to g work ahead now saying item is same led = rw same (rw is at led)

-- or to its end
came_over : (g : Over) (work : g.row.P.Denot) (ahead : AheadState) (now : IoState) (saying : Saying)
    {came : Option (Arc (ℕ × Item) Global)} → came ≡ None → saying.uncounted ≡ 0
    → IsLed g.L.RunInput.range g.L.RunInput.tasks g.L.RunInput.start (g.P.WorkItems.left work)
    (g.P.WorkItems.fits work g.L.RunInput.range.length) ahead now saying (λ entry. (arc_value {X = ℕ × Item} entry).1) (Ok came)
    → SoFar g.L.RunInput.range g.L.RunInput.tasks [] g.L.RunInput.start now saying.lines.items saying.tally
came_over g work ahead now saying is counted led = so_far_counted counted (rw is at led)

-- fewer are left then
fewer : {tasks left : List Task} {first next : ℕ} → first < next → IsAt tasks left next
    → length tasks - next < length tasks - first
fewer after at = omega (arith, after, at_within at)

-- what waits is written at the end, or a sink fails
ended : {range : OutputRange} {tasks : List Task} {a b c : IoState} {owing text : List ℕ} {tally : Tally} → text ≡ owing
    → SoFar range tasks [] a b owing tally → Went b c [] (on_out text)
    → Ran (tasks_script range tasks) a c tally × (counted tally ≤ 2 * length tasks)
    × (c.failures ≤ a.failures + length tasks)
ended is so_far said = so_far_all refl so_far (rw is at said)

unwritten : {range : OutputRange} {tasks : List Task} {a b c : IoState} {owing text : List ℕ} {tally : Tally}
    {fault : RunFault} (limits : Limits) → text ≡ owing → SoFar range tasks [] a b owing tally
    → Broke b c [] (on_out text) fault × (fault ≡ WriteFault) → Stopped limits (tasks_script range tasks) a c fault
unwritten limits is so_far said = so_far_unwritten so_far refl (rw is at said.0) said.1

unwritten_count : {range : OutputRange} {tasks : List Task} {a b c : IoState} {owing : List ℕ} {tally : Tally}
    {said : Report} {fault : RunFault} → SoFar range tasks [] a b owing tally → Broke b c [] said fault
    → c.failures ≤ a.failures + length tasks
unwritten_count so_far broke = omega (arith, so_far_least so_far, broke.heard.failures)

stopped_at : {limits same : Limits} {script : Script} {a b : IoState} {fault : RunFault} → limits ≡ same
    → Stopped limits script a b fault → Stopped same script a b fault
stopped_at is stopped = rw (← is) stopped

pub turns-init : goal.turns-init
turns-init g c = record {
  before = c.requires.before;
  counted = c.requires.counted;
  loans = refl;
  limits = refl;
  range = refl;
}

pub turns-preserved : goal.turns-preserved
turns-preserved g c =
    let led = c.in_ok-entry.ensures in
    let done = c.in_ok-do_in_turn.ensures in
    let new = c.next_in_turn.new in
    let now = io_state_of g.S.Shelf g.O.Sink g.E.Sink new.devices in
    let came = came_to g new.work new.ahead now new.saying c.deref.result.now c.in-Some.is c.deref.ensures led.led in
    record {
      before = record {
        at = came.at;
        so_far = so_far_uncounted led.counted (done.so_far _ (so_far_counted led.counted came.so_far));
        fitting = came.fitting;
        few = c.requires.before.few;
        countable = c.requires.before.countable;
      };
      counted = led.counted;
      loans = done.loans ∙ (led.loans ∙ c.turns.invariant.loans);
      limits = done.limits ∙ (led.limits ∙ c.turns.invariant.limits);
      range = done.same_range ∙ (led.same_range ∙ c.turns.invariant.range);
    }

pub turns-smaller : goal.turns-smaller
turns-smaller g c =
    let led = c.in_ok-entry.ensures in
    let new = c.next_in_turn.new in
    let now = io_state_of g.S.Shelf g.O.Sink g.E.Sink new.devices in
    let came = came_to g new.work new.ahead now new.saying c.deref.result.now c.in-Some.is c.deref.ensures led.led in
    fewer (subst (λ came. IfSome came (λ _. c.turns.ahead.next < new.ahead.next)) c.in-Some.is led.turn) came.at

pub returns-in_err-entry : goal.returns-in_err-entry
returns-in_err-entry g c =
    let p = err_from_is_err_and c.from_residual.result c.from_residual.ensures.1 in
    let led = c.in_err-entry.ensures in
    record {
      run = rw (p.1, p.2) (stopped_counted led.counted led.led c.args.self.now.limits);
      count = rw p.1 tt;
      shelf_count = omega (arith, led.led.count);
      loans = led.loans ∙ c.turns.invariant.loans;
      limits = led.limits ∙ c.turns.invariant.limits;
      range = led.same_range ∙ c.turns.invariant.range;
    }

pub returns-in_err-do_in_turn : goal.returns-in_err-do_in_turn
returns-in_err-do_in_turn g c =
    let p = err_from_is_err_and c.from_residual-in_err-do_in_turn.result c.from_residual-in_err-do_in_turn.ensures.1 in
    let led = c.in_ok-entry.ensures in
    let done = c.in_err-do_in_turn.ensures in
    let new = c.next_in_turn.new in
    let now = io_state_of g.S.Shelf g.O.Sink g.E.Sink new.devices in
    let came = came_to g new.work new.ahead now new.saying c.deref.result.now c.in-Some.is c.deref.ensures led.led in
    let so_far = so_far_counted led.counted came.so_far in
    record {
      run = rw (p.1, p.2) (stopped_at (led.limits ∙ c.turns.invariant.limits) (done.stopped _ so_far));
      count = rw p.1 tt;
      shelf_count = so_far_least_next _ so_far done.shelf_count;
      loans = done.loans ∙ (led.loans ∙ c.turns.invariant.loans);
      limits = done.limits ∙ (led.limits ∙ c.turns.invariant.limits);
      range = done.same_range ∙ (led.same_range ∙ c.turns.invariant.range);
    }

pub returns-in_err-write_lines : goal.returns-in_err-write_lines
returns-in_err-write_lines g c =
    let p = err_from_is_err_and c.from_residual-in_err-write_lines.result
    c.from_residual-in_err-write_lines.ensures.1 in
    let led = c.in_ok-entry.ensures in
    let written = c.in_err-write_lines.ensures in
    let new = c.next_in_turn.new in
    let now = io_state_of g.S.Shelf g.O.Sink g.E.Sink new.devices in
    let so_far = came_over g new.work new.ahead now new.saying c.in_default.is led.counted led.led in
    record {
      run = rw (p.1, p.2) (unwritten _ c.as_slice.ensures.value so_far written.said);
      count = rw p.1 tt;
      shelf_count = unwritten_count so_far written.said.0;
      loans = written.loans ∙ (led.loans ∙ c.turns.invariant.loans);
      limits = led.limits ∙ c.turns.invariant.limits;
      range = led.same_range ∙ c.turns.invariant.range;
    }

pub returns : goal.returns
returns g c =
    let led = c.in_ok-entry.ensures in
    let written = c.in_ok-write_lines.ensures in
    let new = c.next_in_turn.new in
    let now = io_state_of g.S.Shelf g.O.Sink g.E.Sink new.devices in
    let so_far = came_over g new.work new.ahead now new.saying c.in_default.is led.counted led.led in
    let all = ended c.as_slice.ensures.value so_far written.said in
    record {
      run = all.0;
      count = all.1;
      shelf_count = all.2;
      loans = written.loans ∙ (led.loans ∙ c.turns.invariant.loans);
      limits = led.limits ∙ c.turns.invariant.limits;
      range = led.same_range ∙ c.turns.invariant.range;
    }

pub do_in_turn-requires-clause-before : goal.do_in_turn-requires-clause-before
do_in_turn-requires-clause-before g c = λ _ _.
    let led = c.in_ok-entry.ensures in
    let new = c.next_in_turn.new in
    let now = io_state_of g.S.Shelf g.O.Sink g.E.Sink new.devices in
    let came = came_to g new.work new.ahead now new.saying c.deref.result.now c.in-Some.is c.deref.ensures led.led in
    (_, so_far_counted led.counted came.so_far)

pub write_lines-requires-after_bounds : goal.write_lines-requires-after_bounds
write_lines-requires-after_bounds g c = λ _ _.
    let led = c.in_ok-entry.ensures in
    let new = c.next_in_turn.new in
    let now = io_state_of g.S.Shelf g.O.Sink g.E.Sink new.devices in
    so_far_last_room c.requires.before.countable
    (came_over g new.work new.ahead now new.saying c.in_default.is led.counted led.led)
