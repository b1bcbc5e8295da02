use Rattle.std.proofs.Common.{◌≡◌, ◌∙◌, arith, codes, inr}
use Rattle.b3_io.specs.Sums.{complaint}
use Rattle.b3_call.proofs.ListLemmas.{refused_at_once, unread_not_said, unread_said}
use Rattle.b3_call.proofs.lists.say_unread.Goals as goal

pub returns-in_default : goal.returns-in_default
returns-in_default g c limits before same =
    inr (refused_at_once limits _ before _ _ c.fail.result same c.fail.ensures.said c.fail.ensures.status)

pub returns-in-Ok-write_all : goal.returns-in-Ok-write_all
returns-in-Ok-write_all g c limits before same =
    let text : c.as_slice.result.now ≡ complaint c.args.list.now (codes "cannot read") =
    c.as_slice.ensures.value ∙ c.in-Ok.ensures in
    let bytes = rw text at c.in-Ok-write_all.ensures.ok in
    unread_said limits c.args.list.now before _ _ same bytes (omega (arith, c.in-Ok-write_all.ensures.count))

pub returns : goal.returns
returns g c limits before same =
    let text : c.as_slice.result.now ≡ complaint c.args.list.now (codes "cannot read") =
    c.as_slice.ensures.value ∙ c.in-Ok.ensures in
    let bytes = rw text at c.in-Err.ensures.err in
    unread_not_said limits c.args.list.now before _ _ _ c.fail-in-Err.result same bytes c.in-Err.ensures.count
    c.fail-in-Err.ensures.said c.fail-in-Err.ensures.status
