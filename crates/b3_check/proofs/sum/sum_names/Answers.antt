use Rattle.std.proofs.Common.{◌<◌, ◌^◌, Err, Ok, arith, length, subst, sym}
use Rattle.std.proofs.lemmas.List.{length-map}
use Rattle.std.proofs.lemmas.Result.{err_from_is_err_and}
use Rattle.b3_core.specs.declared.modes.Mode.{Mode}
use Rattle.b3_devices.specs.Devices.{io_state_of}
use Rattle.b3_io.specs.Runs.{CanCount}
use Rattle.b3_io.specs.Digests.{range_of}
use Rattle.b3_io.specs.Operands.{operands_left}
use Rattle.b3_io.specs.Sums.{names_script}
use Rattle.b3_io.specs.Tasks.{operand_task}
use Rattle.b3_io.proofs.RunLemmas.{mode_count, mode_room, runs_in_mode, runs_surely, stopped_at_once, stopped_in_mode}
use Rattle.b3_check.proofs.SumTasks.{tasks_script-operands}
use Rattle.b3_check.proofs.sum.sum_names.Goals as goal

pub returns-in_err-mode-clause-run : goal.returns-in_err-mode-clause-run
returns-in_err-mode-clause-run g c =
    let p = err_from_is_err_and c.from_residual.result c.from_residual.ensures.1 in
    rw (p.1, p.2) (stopped_in_mode _ c.args.options.now.key _ _ _ _ c.in_err-mode.ensures.found)

pub returns-in_err-engine-clause-run : goal.returns-in_err-engine-clause-run
returns-in_err-engine-clause-run g c =
    let p = err_from_is_err_and c.from_residual-in_err-engine.result c.from_residual-in_err-engine.ensures.1 in
    let options = c.args.options.now in
    let next = λ (mode : Mode).
    names_script options.form (range_of mode options) (operands_left c.args.operands) in
    rw p.1 (runs_in_mode _ options.key c.in_ok-mode.mode next _ _ _ (Err p.0) c.in_ok-mode.ensures.found
    (stopped_at_once (next c.in_ok-mode.mode) _ p.0 p.2))

pub returns-clause-run : goal.returns-clause-run
returns-clause-run g c =
    let options = c.args.options.now in
    let next = λ (mode : Mode).
    names_script options.form (range_of mode options) (operands_left c.args.operands) in
    let engine = c.in_ok-engine.ensures in
    let run = rw (engine.range, engine.limits, c.limits.ensures) at c.do_names.ensures.run in
    let names = rw (tasks_script-operands (range_of c.in_ok-mode.mode options) options.form
    (operands_left c.args.operands)) at run in
    runs_in_mode _ options.key c.in_ok-mode.mode next _ _ _ c.do_names.result c.in_ok-mode.ensures.found names

pub returns-clause-sure : goal.returns-clause-sure
returns-clause-sure g c = runs_surely _ _ _ _ c.do_names.result (returns-clause-run g c)

pub returns-in_err-mode-clause-shelf_count : goal.returns-in_err-mode-clause-shelf_count
returns-in_err-mode-clause-shelf_count g c =
    omega (arith, mode_count c.args.options.now.key _ _ (Err c.in_err-mode.field-0.0) c.in_err-mode.ensures.found)

pub do_names-requires-clause-few : goal.do_names-requires-clause-few
do_names-requires-clause-few g c = λ _ _.
    let operands = operands_left c.args.operands in
    subst (λ n. n < 2 ^ 63) (sym (length-map operands _)) (omega (arith, c.requires.operands))

pub do_names-requires-clause-countable : goal.do_names-requires-clause-countable
do_names-requires-clause-countable g c = λ _ _.
    let operands = operands_left c.args.operands in
    let seen = io_state_of g.S.Shelf g.O.Sink g.E.Sink in
    let found = c.in_ok-mode.ensures.found in
    let countable : CanCount (seen c.find_mode.new.devices) (length operands) =
    mode_room c.args.options.now.key c.in_ok-mode.mode _ _ (length operands) found c.requires.countable in
    subst (λ n. CanCount (seen c.find_mode.new.devices) n) (sym (length-map operands _)) countable

pub returns-clause-shelf_count : goal.returns-clause-shelf_count
returns-clause-shelf_count g c =
    let options = c.args.options.now in
    omega (
      arith,
      mode_count options.key _ _ (Ok c.in_ok-mode.mode) c.in_ok-mode.ensures.found,
      c.do_names.ensures.shelf_count,
      length-map (operands_left c.args.operands) (operand_task options.form),
    )
