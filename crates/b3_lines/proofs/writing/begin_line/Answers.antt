use Rattle.std.proofs.Common.{◌++◌, ◌∷◌, ◌∙◌, [], ap, cond, length, sym}
use Rattle.std.proofs.lemmas.Bool.{eqb-true}
use Rattle.std.proofs.lemmas.List.{nil_from_length}
use Rattle.memchr.specs.Find.{places}
use Rattle.b3_lines.specs.Names.{holds_bad_character, is_escaped}
use Rattle.b3_lines.specs.Writing.{mark}
use Rattle.b3_lines.proofs.BadCharacters.{holds_bad_character-nil}
use Rattle.b3_lines.proofs.Marks.{is_marked-count}
use Rattle.b3_lines.proofs.writing.begin_line.Goals as goal

pub returns-then-is_empty-clause-bad_character : goal.returns-then-is_empty-clause-bad_character
returns-then-is_empty-clause-bad_character c =
    let name = c.args.name.now in
    let empty = nil_from_length name (eqb-true (length name) 0 (sym c.is_empty.ensures ∙ c.if-is_empty.true)) in
    (λ is. cc is, λ bad. cc (sym bad ∙ ap holds_bad_character empty ∙ holds_bad_character-nil))

pub returns-clause-begun : goal.returns-clause-begun
returns-clause-begun c =
    let name = c.args.name.now in
    let counted = c.count_to_escape-escapes.ensures
    ∙ ap (λ t. length (places is_escaped t)) c.as_bytes-name.ensures.value in
    c.in_ok-push_mark.ensures
    ∙ ap (λ m. c.in_ok-line.line.items ++ cond m (92 ∷ []) []) (is_marked-count name _ counted)
    ∙ ap (λ t. t ++ mark name) c.in_ok-line.ensures.items
