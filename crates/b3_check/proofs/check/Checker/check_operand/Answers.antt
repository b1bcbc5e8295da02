use Rattle.std.proofs.Common.{arith}
use Rattle.b3_io.specs.Checks.{unnamed_list_report}
use Rattle.b3_io.specs.Options.{check_limits}
use Rattle.b3_check.proofs.check.Checker.check_operand.Goals as goal

pub returns-in-Text-clause-run : goal.returns-in-Text-clause-run
returns-in-Text-clause-run g c = rw c.in-Text.is (c.check_list.ensures.run)

pub returns-in-NotText-clause-run : goal.returns-in-NotText-clause-run
returns-in-NotText-clause-run g c =
    let options = c.args.self.now.options in
    rw c.in-NotText.is (c.say.ensures.run (check_limits options)
    (unnamed_list_report options c.in-NotText.names.now c.in-NotText.number) c.unnamed_list.ensures)

pub returns-in-NotText-clause-count : goal.returns-in-NotText-clause-count
returns-in-NotText-clause-count g c =
    c.say.ensures.count _ (unnamed_list_report c.args.self.now.options c.in-NotText.names.now c.in-NotText.number)
    c.unnamed_list.ensures (omega arith)
