use Rattle.std.proofs.Common.{Ok, arith}
use Rattle.std.proofs.lemmas.Result.{err_from_is_err_and}
use Rattle.b3_io.specs.Checks.{lines_script, unread_list_report}
use Rattle.b3_io.specs.Options.{check_limits}
use Rattle.b3_io.proofs.CheckLemmas.{runs_answered}
use Rattle.b3_io.proofs.RunLemmas.{stopped_unanswered}
use Rattle.b3_check.proofs.check.Checker.check_list.Goals as goal

pub returns-in_err-read_list-clause-run : goal.returns-in_err-read_list-clause-run
returns-in_err-read_list-clause-run g c =
    let p = err_from_is_err_and c.from_residual.result c.from_residual.ensures.1 in
    let asked = rw c.limits-limits.ensures at c.in_err-read_list.ensures.asked in
    rw (p.1, p.2) (stopped_unanswered (lines_script c.args.self.now.options c.args.name.now) asked)

pub returns-in-Err-clause-run : goal.returns-in-Err-clause-run
returns-in-Err-clause-run g c =
    let options = c.args.self.now.options in
    let list = c.args.name.now in
    let answered = rw c.in-Err.is at c.in_ok-read_list.ensures.asked in
    runs_answered (check_limits options) _ c.say.result (lines_script options list) _ answered
    (c.say.ensures.run (check_limits options) (unread_list_report options list) c.unread_list.ensures)

pub returns-in-Err-clause-count : goal.returns-in-Err-clause-count
returns-in-Err-clause-count g c =
    c.say.ensures.count _ (unread_list_report c.args.self.now.options c.args.name.now) c.unread_list.ensures
    (omega arith)

pub returns-in-Ok-clause-run : goal.returns-in-Ok-clause-run
returns-in-Ok-clause-run g c =
    let options = c.args.self.now.options in
    let answered = rw c.in-Ok.is at c.in_ok-read_list.ensures.asked in
    runs_answered (check_limits options) _ c.check_lines.result (lines_script options c.args.name.now)
    (Ok c.read_list.new.reader.text.items) answered c.check_lines.ensures.run

pub returns-in-Ok-clause-shelf_count : goal.returns-in-Ok-clause-shelf_count
returns-in-Ok-clause-shelf_count g c =
    let answered = rw c.in-Ok.is at c.in_ok-read_list.ensures.asked in
    omega (arith, c.check_lines.ensures.shelf_count, answered.went.heard.failures)
