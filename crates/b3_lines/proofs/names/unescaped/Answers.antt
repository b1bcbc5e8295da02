use Rattle.std.proofs.Common.{◌≡◌, ◌+◌, ◌-◌, ◌<◌, ◌∷◌, ◌++◌, ◌∙◌, [], ap, arith, length, slice_index, sym, take}
use Rattle.std.specs.String.{string_bytes}
use Rattle.std.proofs.lemmas.Bool.{eqb-true}
use Rattle.std.proofs.lemmas.Str.{IsCharBoundary-after_ascii}
use Rattle.memchr.specs.Find.{Nowhere, Passes, is_byte}
use Rattle.b3_lines.specs.Names.{escape_meaning, has_bad_escape}
use Rattle.b3_lines.proofs.Escapes.{escape_meaning-ascii, lawful-first, may_follow_backslash-ascii, unescaped-none, unescaped-step}
use Rattle.b3_lines.proofs.names.unescaped.Goals as goal

pub bounds-as_bytes-at : goal.bounds-as_bytes-at
bounds-as_bytes-at c =
    let found = rw c.as_bytes.ensures.value at c.in-Some.ensures in
    let next = lawful-first c.loop-at.rest.now c.in-Some.at found.0.high (eqb-true _ 92 found.1) found.0.before
    c.loop-at.invariant.1 in
    rw c.as_bytes-in-Some.ensures.value next.0

pub range_from-rest-requires : goal.range_from-rest-requires
range_from-rest-requires c =
    let found = rw c.as_bytes.ensures.value at c.in-Some.ensures in
    let rest = c.loop-at.rest.now in
    let at = c.in-Some.at in
    let next = lawful-first rest at found.0.high (eqb-true _ 92 found.1) found.0.before c.loop-at.invariant.1 in
    let cut = IsCharBoundary-after_ascii rest (at + 1) (rw c.as_bytes.ensures.value at c.as_bytes.ensures.utf8) next.0
    (may_follow_backslash-ascii _ next.1) in
    let sum : at + 1 + 1 ≡ at + 2 = omega arith in
    λ _. rw sum at cut

pub loop-at-preserved : goal.loop-at-preserved
loop-at-preserved c =
    let found = rw c.as_bytes.ensures.value at c.in-Some.ensures in
    let rest = c.loop-at.rest.now in
    let at = c.in-Some.at in
    let is = eqb-true (slice_index rest at) 92 found.1 in
    let next = lawful-first rest at found.0.high is found.0.before c.loop-at.invariant.1 in
    let character : c.escape_meaning.result ≡ escape_meaning (slice_index rest (at + 1)) =
    rw c.as_bytes-in-Some.ensures.value at c.escape_meaning.ensures in
    let zero_off : at - 0 ≡ at = omega arith in
    let ascii : c.escape_meaning.result < 128 =
    omega (arith, character, escape_meaning-ascii (slice_index rest (at + 1))) in (
      c.range_from-rest.utf8,
      ap has_bad_escape c.range_from-rest.ensures.value ∙ next.2,
      unescaped-step (string_bytes c.loop-at.name) (string_bytes c.push_str.new.self) (string_bytes c.push.new.self)
          rest
          c.range_from-rest.result.now _ at c.loop-at.invariant.2 (c.in_ok-push_str.ensures.bytes
          ∙ ap (λ t. string_bytes c.loop-at.name ++ t) (c.range.ensures.value ∙ ap (λ n. take n rest) zero_off))
          (c.in_ok-push.ensures.bytes
          ∙ ap (λ t. string_bytes c.push_str.new.self ++ t) (c.push.ensures.ascii ascii ∙ ap (λ t. t ∷ []) character))
          c.range_from-rest.ensures.value next.0 is found.0.before,
    )

pub returns : goal.returns
returns c =
    let rest = c.loop-at.rest.now in
    let none : Nowhere (Passes (is_byte 92) rest) 0 (length rest) =
    rw c.as_bytes.ensures.value at c.in_default.ensures in
    c.in_ok-push_str-2.ensures.bytes ∙ ap (λ t. string_bytes c.loop-at.name ++ t) (sym (unescaped-none rest none))
    ∙ c.loop-at.invariant.2
