use Rattle.std.proofs.Common.{ℕ, ◌==◌, List, ◌∙◌, ap, arith, length, refl}
use Rattle.std.proofs.lemmas.Result.{err_from_is_err_and}
use Rattle.b3_io.specs.declared.output_range.OutputRange.{OutputRange}
use Rattle.b3_io.specs.Checks.{list_end_report, list_end_script}
use Rattle.b3_io.specs.Options.{check_limits}
use Rattle.b3_io.specs.Tallies.{no_tally}
use Rattle.b3_io.proofs.RunLemmas.{stopped_early_counted}
use Rattle.b3_check.proofs.Ends.{both_fit, counted-list_end, ran_ended, ran_lines, stopped_ending, stopped_lines}
use Rattle.b3_check.proofs.check.Checker.check_lines.Goals as goal

pub do_lines-requires-clause-fits : goal.do_lines-requires-clause-fits
do_lines-requires-clause-fits g c = λ _ _. ap (λ (range : OutputRange). range.length == 32) c.args.self.now.range

pub returns-in_err-tally-clause-run : goal.returns-in_err-tally-clause-run
returns-in_err-tally-clause-run g c =
    let p = err_from_is_err_and c.from_residual.result c.from_residual.ensures.1 in
    let checker = c.args.self.now in
    let list = c.args.name.now in
    let stopped = stopped_lines checker.options list c.new-lines.ensures.lines c.text.ensures checker.range
    checker.same_limits c.in_err-tally.ensures.run in
    rw (p.1, p.2) (stopped_early_counted no_tally (list_end_script checker.options list) stopped)

pub returns-in_err-end-clause-run : goal.returns-in_err-end-clause-run
returns-in_err-end-clause-run g c =
    let p = err_from_is_err_and c.from_residual-in_err-end.result c.from_residual-in_err-end.ensures.1 in
    let checker = c.args.self.now in
    let list = c.args.name.now in
    let ran = ran_lines checker.options list c.new-lines.ensures.lines c.text.ensures checker.range
    c.in_ok-tally.ensures.run in
    let said = c.in_err-end.ensures.run (check_limits checker.options)
    (list_end_report checker.options list c.in_ok-tally.tally) c.list_end.ensures.report in
    rw (p.1, p.2) (stopped_ending (list_end_script checker.options list) ran said)

pub returns-clause-run : goal.returns-clause-run
returns-clause-run g c =
    let checker = c.args.self.now in
    let list = c.args.name.now in
    let ran = ran_lines checker.options list c.new-lines.ensures.lines c.text.ensures checker.range
    c.in_ok-tally.ensures.run in
    let said = c.in_ok-end.ensures.run (check_limits checker.options)
    (list_end_report checker.options list c.in_ok-tally.tally) c.list_end.ensures.report in
    rw c.add.ensures (ran_ended (list_end_script checker.options list) ran said)

pub returns-clause-count : goal.returns-clause-count
returns-clause-count g c =
    let options = c.args.self.now.options in
    rw c.add.ensures (omega (
      arith,
      c.in_ok-end.ensures.count 1 (list_end_report options c.args.name.now c.in_ok-tally.tally)
          c.list_end.ensures.report (counted-list_end options c.args.name.now c.in_ok-tally.tally),
      c.in_ok-tally.ensures.count,
      c.new-lines.ensures.few,
      ap (λ (xs : List ℕ). length xs) c.text.ensures,
      c.requires.text,
      c.args.self.now.reader.text.ok.0,
    ))

-- a list has no more lines than bytes
pub add-requires : goal.add-requires
add-requires g c =
    let options = c.args.self.now.options in
    both_fit c.in_ok-tally.tally c.in_ok-end.end (omega (
      arith,
      c.in_ok-end.ensures.count 1 (list_end_report options c.args.name.now c.in_ok-tally.tally)
          c.list_end.ensures.report (counted-list_end options c.args.name.now c.in_ok-tally.tally),
      c.in_ok-tally.ensures.count,
      c.new-lines.ensures.few,
      ap (λ (xs : List ℕ). length xs) c.text.ensures,
      c.requires.text,
      c.args.self.now.reader.text.ok.0,
      c.args.self.now.largest,
    ))

pub returns-in_err-end-clause-loans : goal.returns-in_err-end-clause-loans
returns-in_err-end-clause-loans g c = c.in_err-end.ensures.loans ∙ c.in_ok-tally.ensures.loans

pub returns-clause-loans : goal.returns-clause-loans
returns-clause-loans g c = c.in_ok-end.ensures.loans ∙ c.in_ok-tally.ensures.loans

pub returns-in_err-end-clause-options : goal.returns-in_err-end-clause-options
returns-in_err-end-clause-options g c = refl

pub returns-clause-options : goal.returns-clause-options
returns-clause-options g c = refl
