use Rattle.std.proofs.Common.{ap, sym, ◌∙◌}
use Rattle.std.specs.Prelude.{nat_eq}
use Rattle.std.specs.List.{starts_with}
use Rattle.std.proofs.lemmas.Result.{MatchResult-weaker}
use Rattle.b3_lines.specs.Reading.{refusal_of}
use Rattle.b3_lines.specs.Writing.{tag_prefix}
use Rattle.b3_lines.proofs.Layouts.{layout_of-plain}
use Rattle.b3_lines.proofs.reading.cut_up.Goals as goal

pub returns-else-starts_with-clause-refused : goal.returns-else-starts_with-clause-refused
returns-else-starts_with-clause-refused c =
    let rest = c.args.rest.now in
    let untagged = ap (λ t. starts_with nat_eq t tag_prefix) (sym c.as_bytes.ensures.value)
    ∙ sym c.starts_with.ensures.value
    ∙ c.if-starts_with.false in
    MatchResult-weaker c.cut_plain.result c.cut_plain.ensures.refused (λ _ _. tt)
    (λ fault refused marked. ap (refusal_of marked) (layout_of-plain rest untagged) ∙ refused marked)
