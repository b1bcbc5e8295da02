use Rattle.std.proofs.Common.{refl, sym, ap, ◌∙◌, length, ◌==◌, ◌&&◌}
use Rattle.std.proofs.lemmas.Bool.{false_from_ne_true}
use Rattle.std.proofs.lemmas.Result.{err_from_is_err_and}
use Rattle.b3_lines.specs.Names.{has_bad_escape, holds_bad_character}
use Rattle.b3_lines.specs.Reading.{layout_of}
use Rattle.b3_lines.proofs.BadCharacters.{holds_bad_character-name_of}
use Rattle.b3_lines.proofs.Refusals.{IsParted-from_cut, refusal-bad_character, refusal-bad_escape, refusal-no_name, refusal-none, refusal_after_mark-of}
use Rattle.b3_lines.proofs.reading.parse_after_mark.Goals as goal

pub returns-in_err-cut-clause-refused : goal.returns-in_err-cut-clause-refused
returns-in_err-cut-clause-refused c =
    let marked = c.args.marked in
    let rest = c.args.rest.now in
    let p = err_from_is_err_and c.from_residual.result c.from_residual.ensures.1 in
    let refused = refusal_after_mark-of marked rest ∙ c.in_err-cut.ensures.refused marked in
    rw (p.1, p.2) refused

pub returns-then-is_empty-clause-refused : goal.returns-then-is_empty-clause-refused
returns-then-is_empty-clause-refused c =
    let layout = layout_of c.args.rest.now in
    let cut = c.in_ok-cut.ensures.taken in
    refusal_after_mark-of c.args.marked c.args.rest.now
    ∙ refusal-no_name c.args.marked layout (IsParted-from_cut layout cut)
    (ap (λ t. length t == 0) (sym cut.spelling) ∙ sym c.is_empty.ensures ∙ c.if-is_empty.true)

pub returns-in_default-clause-refused : goal.returns-in_default-clause-refused
returns-in_default-clause-refused c =
    let layout = layout_of c.args.rest.now in
    let cut = c.in_ok-cut.ensures.taken in
    let name_is = c.as_bytes.ensures.value ∙ cut.spelling in
    refusal_after_mark-of c.args.marked c.args.rest.now
    ∙ refusal-bad_escape c.args.marked layout (IsParted-from_cut layout cut)
    (ap (λ t. length t == 0) (sym cut.spelling) ∙ sym c.is_empty.ensures ∙ c.if-is_empty.false)
    (ap (λ t. c.args.marked && has_bad_escape t) (sym name_is) ∙ c.in_default.ensures.lawful.0 refl)

pub returns-then-holds_bad_character-clause-refused : goal.returns-then-holds_bad_character-clause-refused
returns-then-holds_bad_character-clause-refused c =
    let layout = layout_of c.args.rest.now in
    let cut = c.in_ok-cut.ensures.taken in
    let name_is = c.as_bytes.ensures.value ∙ cut.spelling in
    let name_is-2 = c.as_bytes-2.ensures.value ∙ cut.spelling in
    let lawful = ap (λ t. c.args.marked && has_bad_escape t) (sym name_is)
    ∙ false_from_ne_true _ (λ bad. cc (c.in-Some.ensures.lawful.1 bad)) in
    refusal_after_mark-of c.args.marked c.args.rest.now
    ∙ refusal-bad_character c.args.marked layout (IsParted-from_cut layout cut)
    (ap (λ t. length t == 0) (sym cut.spelling) ∙ sym c.is_empty.ensures ∙ c.if-is_empty.false)
    lawful
    (holds_bad_character-name_of c.args.marked _ lawful
    ∙ ap holds_bad_character (sym name_is-2) ∙ sym c.holds_bad_character.ensures ∙ c.if-holds_bad_character.true)

pub returns-clause-taken : goal.returns-clause-taken
returns-clause-taken c =
    let layout = layout_of c.args.rest.now in
    let cut = c.in_ok-cut.ensures.taken in
    let marked = c.args.marked in
    let bytes_are = c.as_bytes.ensures.value in
    let none = false_from_ne_true (marked && has_bad_escape c.as_bytes.result.now)
    (λ bad. cc (c.in-Some.ensures.lawful.1 bad)) in
    let lawful = ap (λ t. marked && has_bad_escape t) (sym bytes_are) ∙ none in
    let named_lawful = ap (λ t. marked && has_bad_escape t) (sym cut.spelling) ∙ lawful in
    record {
      accepted = refusal_after_mark-of marked c.args.rest.now ∙ refusal-none marked layout (record {
        has_separator = IsParted-from_cut layout cut;
        named = ap (λ t. length t == 0) (sym cut.spelling) ∙ sym c.is_empty.ensures ∙ c.if-is_empty.false;
        lawful = named_lawful;
        allowed = holds_bad_character-name_of marked _ named_lawful
            ∙ ap holds_bad_character (sym cut.spelling ∙ sym c.as_bytes-2.ensures.value)
            ∙ sym c.holds_bad_character.ensures ∙ c.if-holds_bad_character.false;
      });
      digits = cut.digits;
      spelling = cut.spelling;
      lawful = λ is. ap (λ m. m && has_bad_escape c.in_ok-cut.cut.raw_name.now) (sym is) ∙ lawful;
      counted = λ is. rw bytes_are at (c.in-Some.ensures.counted is);
    }
