use Rattle.std.proofs.Common.{rules, ◌∙◌, List, ap, sym}
use Rattle.std.proofs.lemmas.List.Elements.{recursion_from_All}
use Rattle.b3_io.specs.Checks.{check_script}
use Rattle.b3_check.specs.Laws.{IsThere, oks_of, verdicts_on}
use Rattle.b3_io.specs.Operands.{Operand, operands_left}
use Rattle.b3_io.specs.Scripts.{report_from}
use Rattle.b3_io.proofs.CheckLemmas.{entry_of-read}
use Rattle.b3_check.proofs.LawLemmas.{report_from-checked, report_from-sums, wrote_surely}
use Rattle.b3_io.specs.Options.{check_limits}
use Rattle.b3_check.proofs.RightLemmas.{WritesRightly-checks}
use Rattle.b3_check.proofs.VerifiedLemmas.{AllVerified-from_right}
use Rattle.b3_check.proofs.check.run_check.Goals as goal

pub returns-clause-checks : goal.returns-clause-checks
returns-clause-checks g c contents list text entries tells is_sure asks lists_are has says =
    let options = c.args.options.now in
    wrote_surely g.S.Shelf g.O.Sink g.E.Sink contents (check_script options (operands_left c.args.lists))
    c.args.shelf.now c.args.shelf.now c.args.out.now _ c.args.err.now _ c.check_lists.result
    (verdicts_on options contents entries) tells is_sure
    (ap (λ (ls : List Operand). report_from contents (check_script options ls)) lists_are
    ∙ report_from-checked options contents list text entries asks has says) (search rules)

pub returns-clause-sums_check : goal.returns-clause-sums_check
returns-clause-sums_check g c contents form list files tells is_sure asks lists_are shows has there =
    let options = c.args.options.now in
    wrote_surely g.S.Shelf g.O.Sink g.E.Sink contents (check_script options (operands_left c.args.lists))
    c.args.shelf.now c.args.shelf.now c.args.out.now _ c.args.err.now _ c.check_lists.result (oks_of files) tells
    is_sure
    (ap (λ (ls : List Operand). report_from contents (check_script options ls)) lists_are
    ∙ report_from-sums options form contents list files asks shows has
    (recursion_from_All (IsThere contents) files there)) (search rules)

pub returns-clause-entries : goal.returns-clause-entries
returns-clause-entries g c = entry_of-read

pub returns-clause-one_entry : goal.returns-clause-one_entry
returns-clause-one_entry g c line entry other says also =
    sym (entry_of-read line entry.digest entry.name entry.shown says)
    ∙ entry_of-read line other.digest other.name other.shown also

pub returns-clause-right : goal.returns-clause-right
returns-clause-right g c contents told =
    let right = WritesRightly-checks (check_limits c.args.options.now) _ _ c.check_lists.result contents
    c.args.options.now (operands_left c.args.lists) told c.check_lists.ensures.run in
    search (rules, right)

pub returns-clause-all_verified : goal.returns-clause-all_verified
returns-clause-all_verified g c contents told =
    AllVerified-from_right contents c.args.options.now (operands_left c.args.lists) _ _ _ _ c.check_lists.result
    (returns-clause-right g c contents told)
