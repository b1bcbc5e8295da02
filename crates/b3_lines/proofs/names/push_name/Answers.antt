use Rattle.std.proofs.Common.{◌++◌, ◌∙◌, ap, sym}
use Rattle.b3_lines.proofs.Marks.{escaped-unmarked}
use Rattle.b3_lines.proofs.Results.{OnOk-grown}
use Rattle.b3_lines.proofs.names.push_name.Goals as goal

pub returns-else-marked : goal.returns-else-marked
returns-else-marked c =
    OnOk-grown _ _ _ _ _ c.extend_from_slice.ensures.items
    (ap (λ t. c.args.line.now.items ++ t) (sym (escaped-unmarked c.args.name.now (sym c.requires ∙ c.if-marked.false))))
