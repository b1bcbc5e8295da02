use Rattle.std.proofs.Common.{ap, inl}
use Rattle.std.proofs.lemmas.Result.{err_from_is_err_and}
use Rattle.b3_io.specs.Scripts.{Report}
use Rattle.b3_io.proofs.RunLemmas.{ran_said, stopped_at_once, stopped_said}
use Rattle.b3_check.proofs.check.say.Goals as goal

pub returns-in_err-message-clause-run : goal.returns-in_err-message-clause-run
returns-in_err-message-clause-run g c limits report is =
    let p = err_from_is_err_and c.from_residual.result c.from_residual.ensures.1 in
    rw p.1 (stopped_at_once _ _ _ p.2)

pub returns-in_err-say-clause-run : goal.returns-in_err-say-clause-run
returns-in_err-say-clause-run g c limits report is =
    let p = err_from_is_err_and c.from_residual-in_err-say.result c.from_residual-in_err-say.ensures.1 in
    let same = rw c.in_ok-message.was at is in
    let said = rw same at c.in_err-say.ensures.said in
    rw (p.1, p.2) (stopped_said report said.0 (inl said.1))

pub returns-clause-run : goal.returns-clause-run
returns-clause-run g c limits report is =
    let same = rw c.in_ok-message.was at is in
    let said = rw same at c.in_ok-say.ensures.said in
    ran_said report said (ap (λ (p : Report). p.tally) same)

pub returns-clause-count : goal.returns-clause-count
returns-clause-count g c most report is few =
    let same = rw c.in_ok-message.was at is in
    rw (ap (λ (p : Report). p.tally) same) few
