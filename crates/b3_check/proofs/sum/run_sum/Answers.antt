use Rattle.std.proofs.Common.{rules}
use Rattle.std.proofs.lemmas.List.Elements.{recursion_from_All}
use Rattle.b3_check.specs.Laws.{IsThere, sums_of}
use Rattle.b3_io.specs.Operands.{operands_left}
use Rattle.b3_io.specs.Sums.{sum_script}
use Rattle.b3_check.proofs.LawLemmas.{report_from-summed, wrote_surely}
use Rattle.b3_io.specs.Options.{limits_of}
use Rattle.b3_check.proofs.RightLemmas.{WritesRightly-sums}
use Rattle.b3_check.proofs.VerifiedLemmas.{WritesRightly-lines}
use Rattle.b3_check.proofs.sum.run_sum.Goals as goal

pub returns-clause-sums : goal.returns-clause-sums
returns-clause-sums g c contents files tells is_sure asks operands_are there =
    let options = c.args.options.now in
    let operands = operands_left c.args.operands in
    wrote_surely g.S.Shelf g.O.Sink g.E.Sink contents (sum_script options operands) c.args.shelf.now c.args.shelf.now
    c.args.out.now _ c.args.err.now _ c.sum_names.result (sums_of options.form files) tells is_sure
    (report_from-summed options contents files operands asks operands_are
    (recursion_from_All (IsThere contents) files there))
    (search rules)

pub returns-clause-right : goal.returns-clause-right
returns-clause-right g c contents told =
    let right = WritesRightly-sums (limits_of c.args.options.now) _ _ c.sum_names.result contents c.args.options.now
    (operands_left c.args.operands) told c.sum_names.ensures.run in
    search (rules, right)

pub returns-clause-all_written : goal.returns-clause-all_written
returns-clause-all_written g c contents told =
    WritesRightly-lines contents c.args.options.now (operands_left c.args.operands) _ _ _ _ c.sum_names.result
    (returns-clause-right g c contents told)
