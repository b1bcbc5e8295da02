use Rattle.std.proofs.Common.{◌≡◌, ◌++◌, ◌==◌, ◌∷◌, ◌∙◌, [], ap, false, length, not, sym, true}
use Rattle.std.specs.String.{string_vec}
use Rattle.std.proofs.lemmas.Bool.{ne_eqb}
use Rattle.std.proofs.lemmas.Result.{IfOk-at_ok}
use Rattle.memchr.specs.Find.{places}
use Rattle.b3_lines.specs.Names.{escaped, is_escaped}
use Rattle.b3_lines.specs.Writing.{is_marked, shown}
use Rattle.b3_lines.proofs.Marks.{is_marked-count, shown-marked, shown-unmarked}
use Rattle.b3_lines.proofs.Texts.{IsUtf8-shown}
use Rattle.b3_lines.proofs.writing.shown_name.Goals as goal

pub returns-then-escapes-eq0-clause-shown : goal.returns-then-escapes-eq0-clause-shown
returns-then-escapes-eq0-clause-shown c =
    let name = c.args.name.now in
    let counted = c.count_to_escape-escapes.ensures ∙ ap (λ t. length (places is_escaped t)) c.as_bytes.ensures.value in
    let unmarked : is_marked name ≡ false =
    sym (is_marked-count name _ counted) ∙ ap (λ n. not (n == 0)) c.if-escapes-eq0.true in
    c.in_ok-from_str.ensures.ok ∙ sym (shown-unmarked name unmarked)

pub unwrap-requires : goal.unwrap-requires
unwrap-requires c =
    let name = c.args.name.now in
    let counted = c.count_to_escape-escapes.ensures ∙ ap (λ t. length (places is_escaped t)) c.as_bytes.ensures.value in
    let marked : is_marked name ≡ true =
    sym (is_marked-count name _ counted) ∙ ap not (ne_eqb _ 0 c.if-escapes-eq0.false) in
    let text_is : c.push_escaped.new.line.items ≡ shown name =
    c.in_ok-push_escaped.ensures ∙ ap (λ t. c.push.new.self.items ++ escaped t) c.as_bytes-2.ensures.value
    ∙ ap (λ t. t ++ escaped name) (c.in_ok-push.ensures.items ∙ ap (λ t. t ++ 92 ∷ []) c.in_ok-text.ensures.items)
    ∙ sym (shown-marked name marked) in
    c.from_utf8.ensures.succeeds (rw text_is (IsUtf8-shown name c.utf8.name))

pub returns-clause-shown : goal.returns-clause-shown
returns-clause-shown c =
    let name = c.args.name.now in
    let counted = c.count_to_escape-escapes.ensures ∙ ap (λ t. length (places is_escaped t)) c.as_bytes.ensures.value in
    let marked : is_marked name ≡ true =
    sym (is_marked-count name _ counted) ∙ ap not (ne_eqb _ 0 c.if-escapes-eq0.false) in
    let text_is : c.push_escaped.new.line.items ≡ shown name =
    c.in_ok-push_escaped.ensures ∙ ap (λ t. c.push.new.self.items ++ escaped t) c.as_bytes-2.ensures.value
    ∙ ap (λ t. t ++ escaped name) (c.in_ok-push.ensures.items ∙ ap (λ t. t ++ 92 ∷ []) c.in_ok-text.ensures.items)
    ∙ sym (shown-marked name marked) in
    let whole = IfOk-at_ok (λ t. string_vec t ≡ c.push_escaped.new.line) c.unwrap.ensures c.from_utf8.ensures.ok in
    ap (λ v. v.items) whole ∙ text_is
