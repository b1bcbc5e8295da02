use Rattle.std.proofs.Common.{◌∙◌, ◌++◌, ap, codes}
use Rattle.b3_io.proofs.texts.not_text.Goals as goal

pub returns : goal.returns
returns c =
    let name = c.in_ok-push_str.ensures.bytes ∙ ap (λ text. text ++ codes "name ") c.new-text.ensures.bytes in
    let digits = c.as_str.ensures.value ∙ c.in_ok-number.ensures.ok in
    let number = c.in_ok-push_str-2.ensures.bytes ∙ (λ j. name j ++ digits j) in
    c.in_ok-push_str-3.ensures.bytes ∙ ap (λ text. text ++ codes " is not text") number
