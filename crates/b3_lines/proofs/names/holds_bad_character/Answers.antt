use Rattle.std.proofs.Common.{List, ℕ, ap, not, subst, sym, ◌∙◌}
use Rattle.memchr.specs.Find.{FindsNeedle, is_byte}
use Rattle.b3_lines.proofs.BadCharacters.{holds_bad_character-first, holds_bad_character-none, holds_bad_character-second, is_some-FindsNeedle, is_some-IsFirstByte}
use Rattle.b3_lines.proofs.names.holds_bad_character.Goals as goal

pub returns-then-is_none : goal.returns-then-is_none
returns-then-is_none c =
    sym (holds_bad_character-none c.args.name.now c.memchr2.result c.memchr2.ensures
    (ap not (c.is_none.ensures ∙ ap not c.if-is_none.true)))

pub returns-then-is_some : goal.returns-then-is_some
returns-then-is_some c =
    let name = c.args.name.now in
    let nul = sym (is_some-IsFirstByte (is_byte 0) name c.memchr.result c.memchr.ensures) ∙ sym c.is_some.ensures
    ∙ c.if-is_some.true in
    c.if-is_some.true ∙ sym (holds_bad_character-first name nul)

pub returns-else-is_some : goal.returns-else-is_some
returns-else-is_some c =
    let name = c.args.name.now in
    let no_nul = sym (is_some-IsFirstByte (is_byte 0) name c.memchr.result c.memchr.ensures) ∙ sym c.is_some.ensures
    ∙ c.if-is_some.false in
    let found = subst (λ (needle : List ℕ). FindsNeedle name needle 0 c.find.result) c.as_bytes.ensures.value
    c.find.ensures in
    c.is_some-else-is_some.ensures ∙ is_some-FindsNeedle name c.find.result found
    ∙ sym (holds_bad_character-second name no_nul)
