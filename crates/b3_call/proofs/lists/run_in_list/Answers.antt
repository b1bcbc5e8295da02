use Rattle.std.proofs.Common.{Err, arith, inl, inr, refl}
use Rattle.b3_io.specs.Runs.{io_state}
use Rattle.b3_program.specs.Tasks.{limits_for}
use Rattle.b3_call.specs.Programs.{reading_script}
use Rattle.b3_call.proofs.ListLemmas.{ends_at, list_answered, reading_stopped, refused_at_once}
use Rattle.b3_call.proofs.lists.run_in_list.Goals as goal

pub returns-in_default : goal.returns-in_default
returns-in_default g c = inr (refused_at_once _ _ _ _ _ c.fail.result refl c.fail.ensures.said c.fail.ensures.status)

pub returns-in-Ok-Err : goal.returns-in-Ok-Err
returns-in-Ok-Err g c =
    let seen = io_state g.S.Shelf g.O.Sink g.E.Sink in
    let before = seen c.args.shelf.now c.args.out.now c.args.err.now in
    let between = seen c.read.new.shelf c.args.out.now c.args.err.now in
    let agrees = rw c.in-Ok-Err.field-0-is at c.in-Ok-Err.ensures.answer in
    let count = rw c.in-Ok-Err.field-0-is at c.in-Ok-Err.ensures.count in
    inl (record {
      answer = Err c.in-Ok-Err.field-0-0;
      between = between;
      read = list_answered c.args.list.now (Err c.in-Ok-Err.field-0-0) before between agrees c.read.ensures.told
          c.read.ensures.still_sure count refl refl;
      ends = c.say_unread.ensures (limits_for c.args.job.now) between refl;
    })

pub returns : goal.returns
returns g c =
    let seen = io_state g.S.Shelf g.O.Sink g.E.Sink in
    let before = seen c.args.shelf.now c.args.out.now c.args.err.now in
    let between = seen c.read.new.shelf c.args.out.now c.args.err.now in
    let after = seen c.read.new.shelf c.args.out.now c.fail-in-Err.new.err in
    let limits = limits_for c.args.job.now in
    let list = c.args.list.now in
    let cause = rw c.limits.ensures at c.in-Err.ensures.fault in
    let stopped = reading_stopped limits list before between c.in-Err.fault c.read.ensures.told
    c.read.ensures.still_sure (omega (arith, c.in-Err.ensures.count)) refl refl cause c.in-Err.ensures.no_sink in
    inr (ends_at limits (reading_script list) before after between.err c.in-Err.fault c.fail-in-Err.result stopped
    c.fail-in-Err.ensures.said c.fail-in-Err.ensures.status)
