use Rattle.std.proofs.Common.{rules, tests}
use Rattle.std.proofs.lemmas.Iterator.{YieldsList-from_slice}
use Rattle.std.proofs.lemmas.Iterator.Search.{any_from_yields_List}
use Rattle.b3_program.specs.Usages.{is_input}
use Rattle.b3_program.proofs.task.includes_input.Goals as goal

pub returns : goal.returns
returns c =
    any_from_yields_List is_input _ _ _ c.any.ensures.ran (YieldsList-from_slice c.args.files.now cc)
    (λ x b q k. search (rules, tests))
