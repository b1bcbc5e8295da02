use Rattle.std.proofs.Common.{◌≡◌, sym, ◌∙◌, ap, arith}
use Rattle.std.proofs.lemmas.Result.{err_from_is_err_and}
use Rattle.b3_devices.specs.Devices.{io_state_of}
use Rattle.b3_io.specs.Runs.{IoState, sink_state}
use Rattle.b3_io.specs.Tasks.{Found, IsFitItem, task_of, task_script}
use Rattle.b3_io.specs.declared.items.Item.{Item}
use Rattle.b3_io.specs.declared.items.Item.TheVariants.{Say as SayItem, Ask as AskItem}
use Rattle.b3_io.specs.declared.message.Message.{Message}
use Rattle.b3_io.specs.declared.output_range.OutputRange.{OutputRange}
use Rattle.b3_crew.proofs.CrewLemmas.{found_said}
use Rattle.b3_crew.proofs.OwingLemmas.{stopped_owing}
use Rattle.b3_crew.proofs.TaskLemmas.{so_far_last_room, so_far_room, so_far_said, so_far_stopped, so_far_unsaid}
use Rattle.b3_check.proofs.Ends.{found_room, so_far_counts}
use Rattle.b3_check.proofs.engine.Engine.do_in_turn.Goals as goal

-- what is found of a name is found of its item
found_of : {range same : OutputRange} {item is : Item} {a b : IoState} {message : Message} → item ≡ is → range ≡ same
    → Found (task_script same (task_of is)) a b message → Found (task_script range (task_of item)) a b message
found_of is same found = rw (is, same) found

pub returns-in-Say-clause-so_far : goal.returns-in-Say-clause-so_far
returns-in-Say-clause-so_far g c =
    let item = c.args.entry.now.1 in
    let is : item ≡ SayItem c.in-Say.message = sym c.item.ensures.item ∙ c.in-Say.is in
    let fit : IsFitItem g.L.RunInput.range.length item = rw c.item.ensures.item at c.item.ensures.fit in
    let now = io_state_of g.S.Shelf g.O.Sink g.E.Sink c.args.devices.now in
    let found = found_said g.L.RunInput.range now item c.in-Say.message is fit in
    so_far_said _ _ _ _ _ _ _ _ (task_of item) c.say.result found.0 found.1 (omega arith) c.say.ensures.said c.say.ensures.counted

pub returns-in-Say-clause-stopped : goal.returns-in-Say-clause-stopped
returns-in-Say-clause-stopped g c =
    let item = c.args.entry.now.1 in
    let is : item ≡ SayItem c.in-Say.message = sym c.item.ensures.item ∙ c.in-Say.is in
    let fit : IsFitItem g.L.RunInput.range.length item = rw c.item.ensures.item at c.item.ensures.fit in
    let now = io_state_of g.S.Shelf g.O.Sink g.E.Sink c.args.devices.now in
    let found = found_said g.L.RunInput.range now item c.in-Say.message is fit in
    so_far_unsaid _ _ _ _ _ _ _ _ (task_of item) c.say.result found.0 c.say.ensures.said

pub returns-in_err-message-in-Ask-clause-stopped : goal.returns-in_err-message-in-Ask-clause-stopped
returns-in_err-message-in-Ask-clause-stopped g c =
    let p = err_from_is_err_and c.from_residual.result c.from_residual.ensures.1 in
    let is : c.args.entry.now.1 ≡ AskItem c.in-Ask.request = sym c.item.ensures.item ∙ c.in-Ask.is in
    let message = c.in_err-message-in-Ask.ensures in
    let stopped = rw (← c.requires.range) at message.finds in
    rw (p.1, p.2, is) (λ left so_far. so_far_stopped (task_of (AskItem c.in-Ask.request)) so_far
    (stopped_owing c.args.lines.now.items stopped (ap (λ out. sink_state g.O.Sink out) message.unsaid)))

pub returns-in_ok-message-in-Ask-clause-so_far : goal.returns-in_ok-message-in-Ask-clause-so_far
returns-in_ok-message-in-Ask-clause-so_far g c =
    let is : c.args.entry.now.1 ≡ AskItem c.in-Ask.request = sym c.item.ensures.item ∙ c.in-Ask.is in
    let message = c.in_ok-message-in-Ask.ensures in
    let said = c.say-in-Ask in
    so_far_said _ _ _ _ _ _ _ _ (task_of c.args.entry.now.1) said.result (found_of is c.requires.range message.finds)
    message.one message.shelf_count said.ensures.said said.ensures.counted

pub returns-in_ok-message-in-Ask-clause-stopped : goal.returns-in_ok-message-in-Ask-clause-stopped
returns-in_ok-message-in-Ask-clause-stopped g c =
    let is : c.args.entry.now.1 ≡ AskItem c.in-Ask.request = sym c.item.ensures.item ∙ c.in-Ask.is in
    let found = found_of is c.requires.range c.in_ok-message-in-Ask.ensures.finds in
    let said = c.say-in-Ask in
    so_far_unsaid _ _ _ _ _ _ _ _ (task_of c.args.entry.now.1) said.result found said.ensures.said

pub returns-in_err-message-in-Ask-clause-shelf_count : goal.returns-in_err-message-in-Ask-clause-shelf_count
returns-in_err-message-in-Ask-clause-shelf_count g c = c.in_err-message-in-Ask.ensures.shelf_count

pub returns-in-Say-clause-shelf_count : goal.returns-in-Say-clause-shelf_count
returns-in-Say-clause-shelf_count g c = omega (arith, c.say.ensures.shelf_count)

pub returns-in_ok-message-in-Ask-clause-shelf_count : goal.returns-in_ok-message-in-Ask-clause-shelf_count
returns-in_ok-message-in-Ask-clause-shelf_count g c =
    omega (arith, c.in_ok-message-in-Ask.ensures.shelf_count, c.say-in-Ask.ensures.shelf_count)

pub returns-in_err-message-in-Ask-clause-loans : goal.returns-in_err-message-in-Ask-clause-loans
returns-in_err-message-in-Ask-clause-loans g c = c.in_err-message-in-Ask.ensures.loans

pub returns-in-Say-clause-loans : goal.returns-in-Say-clause-loans
returns-in-Say-clause-loans g c = c.say.ensures.loans

pub returns-in_ok-message-in-Ask-clause-loans : goal.returns-in_ok-message-in-Ask-clause-loans
returns-in_ok-message-in-Ask-clause-loans g c = c.say-in-Ask.ensures.loans ∙ c.in_ok-message-in-Ask.ensures.loans

pub say-requires-clause-countable : goal.say-requires-clause-countable
say-requires-clause-countable g c = λ _ _. so_far_last_room c.requires.countable c.requires.before.1

pub say-requires-clause-room : goal.say-requires-clause-room
say-requires-clause-room g c = λ _ _.
    so_far_counts c.in-Say.message.tally c.requires.few c.requires.before.1 (rw c.in-Say.is at c.item.ensures.fit)

pub message_of-requires-clause-countable : goal.message_of-requires-clause-countable
message_of-requires-clause-countable g c = λ _ _. so_far_room c.requires.countable c.requires.before.1

pub say-requires-in-Ask-clause-countable : goal.say-requires-in-Ask-clause-countable
say-requires-in-Ask-clause-countable g c = λ _ _.
    let message = c.in_ok-message-in-Ask.ensures in
    found_room (so_far_room c.requires.countable c.requires.before.1) message.finds message.shelf_count

pub say-requires-in-Ask-clause-room : goal.say-requires-in-Ask-clause-room
say-requires-in-Ask-clause-room g c = λ _ _.
    so_far_counts c.in_ok-message-in-Ask.message.tally c.requires.few c.requires.before.1 c.in_ok-message-in-Ask.ensures.one
