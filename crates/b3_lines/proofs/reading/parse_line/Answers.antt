use Rattle.std.proofs.Common.{◌==◌, ◌∙◌, ap, length, sym, subst}
use Rattle.std.specs.Prelude.{IsUtf8}
use Rattle.std.proofs.lemmas.Bool.{false_from_ne_true}
use Rattle.std.proofs.lemmas.Result.{MatchResult-weaker}
use Rattle.std.proofs.lemmas.Str.{IsUtf8-from_is_utf8}
use Rattle.b3_lines.specs.Reading.{has_mark}
use Rattle.b3_lines.proofs.Refusals.{first_refusal-empty, first_refusal-not_text, first_refusal-rest}
use Rattle.b3_lines.proofs.Results.{IfOk-joined}
use Rattle.b3_lines.proofs.reading.parse_line.Goals as goal

pub returns-then-is_empty-clause-refused : goal.returns-then-is_empty-clause-refused
returns-then-is_empty-clause-refused c =
    first_refusal-empty c.args.line.now
    (ap (λ t. length t == 0) (sym c.without_carriage_return-text.ensures) ∙ sym c.is_empty.ensures ∙ c.if-is_empty.true)

pub returns-in_default-clause-refused : goal.returns-in_default-clause-refused
returns-in_default-clause-refused c =
    let text_is = c.without_carriage_return-text.ensures in
    first_refusal-not_text c.args.line.now
    (ap (λ t. length t == 0) (sym text_is) ∙ sym c.is_empty.ensures ∙ c.if-is_empty.false)
    (false_from_ne_true _ (λ utf8. c.in_default.ensures.cases.0 (rw text_is (IsUtf8-from_is_utf8 _ utf8))))

pub returns-clause-refused : goal.returns-clause-refused
returns-clause-refused c =
    let text_is = c.in-Ok.ensures.cases.0 ∙ c.without_carriage_return-text.ensures in
    let utf8 = subst IsUtf8 (sym c.in-Ok.ensures.cases.0) c.in-Ok.ensures.cases.1 in
    let filled = ap (λ t. length t == 0) c.in-Ok.ensures.cases.0 ∙ sym c.is_empty.ensures ∙ c.if-is_empty.false in
    let mark = c.after_mark-marked.ensures.mark in
    let rest = c.after_mark-marked.ensures.rest in
    let same = first_refusal-rest c.args.line.now c.in-Ok.text.now _ _ text_is utf8 filled mark rest in
    MatchResult-weaker c.parse_after_mark.result c.parse_after_mark.ensures.refused (λ _ _. tt)
    (λ fault refused. same ∙ refused)

pub returns-clause-taken : goal.returns-clause-taken
returns-clause-taken c =
    let text_is = c.in-Ok.ensures.cases.0 ∙ c.without_carriage_return-text.ensures in
    let utf8 = subst IsUtf8 (sym c.in-Ok.ensures.cases.0) c.in-Ok.ensures.cases.1 in
    let filled = ap (λ t. length t == 0) c.in-Ok.ensures.cases.0 ∙ sym c.is_empty.ensures ∙ c.if-is_empty.false in
    let mark = c.after_mark-marked.ensures.mark in
    let rest = c.after_mark-marked.ensures.rest in
    let same = first_refusal-rest c.args.line.now c.in-Ok.text.now _ _ text_is utf8 filled mark rest in
    IfOk-joined c.parse_after_mark.result _ _ _ (λ parts marked are. record {
      accepted = same ∙ are.accepted;
      mark = marked ∙ mark ∙ ap has_mark text_is;
      parts = rw (marked, ← text_is, ← rest) are;
    }) c.parse_after_mark.ensures.mark c.parse_after_mark.ensures.taken
