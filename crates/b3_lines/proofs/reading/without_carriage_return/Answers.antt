use Rattle.std.proofs.Common.{◌∙◌, ap, refl}
use Rattle.b3_lines.proofs.Refusals.{without_carriage_return-stripped}
use Rattle.b3_lines.proofs.reading.without_carriage_return.Goals as goal

pub returns : goal.returns
returns c =
    ap (λ x. x.now) c.unwrap_or.ensures
    ∙ without_carriage_return-stripped c.args.line.now c.strip_suffix.result c.args.line refl
    c.strip_suffix.ensures.cases
