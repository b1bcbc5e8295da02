use Rattle.std.proofs.Common.{◌≤◌, sym, ap, ◌∙◌, arith, length, take, drop}
use Rattle.std.specs.Prelude.{bytes_eq}
use Rattle.std.specs.List.{list_all}
use Rattle.std.proofs.lemmas.Bool.{le-ltb, lt-ltb, not-false, not-true}
use Rattle.std.proofs.lemmas.List.{length-take-le}
use Rattle.hex.specs.Hex.{decode_of, is_hex_digit}
use Rattle.b3_lines.specs.Reading.{plain_layout}
use Rattle.b3_lines.specs.Writing.{spaces}
use Rattle.b3_lines.proofs.DigitsAndSpaces.{IsCharBoundary-name, list_all-from_ok}
use Rattle.b3_lines.proofs.Refusals.{refusal-short, refusal-not_digits, refusal-no_spaces}
use Rattle.b3_lines.proofs.reading.cut_plain.Goals as goal

pub returns-then-bytes-lt66-clause-refused : goal.returns-then-bytes-lt66-clause-refused
returns-then-bytes-lt66-clause-refused c marked =
    let rest = c.args.rest.now in
    let len = c.as_bytes-bytes.ensures.len in
    let short = c.if-bytes-lt66.true in
    refusal-short marked (plain_layout rest) (lt-ltb (length rest) 66 (omega (arith, len, short)))

pub slice_bounds-digest_of-end : goal.slice_bounds-digest_of-end
slice_bounds-digest_of-end c = sym (length-take-le 64 c.as_bytes-bytes.result.now (omega arith))

pub digest_of-requires : goal.digest_of-requires
digest_of-requires c = length-take-le 64 c.as_bytes-bytes.result.now (omega arith)

pub returns-in_default-clause-refused : goal.returns-in_default-clause-refused
returns-in_default-clause-refused c marked =
    let rest = c.args.rest.now in
    let len = c.as_bytes-bytes.ensures.len in
    let enough = c.if-bytes-lt66.false in
    let long : 66 ≤ length rest = omega (arith, len, enough) in
    refusal-not_digits marked (plain_layout rest) (le-ltb (length rest) 66 long)
    (ap (λ t. list_all is_hex_digit (take 64 t)) (sym c.as_bytes-bytes.ensures.value) ∙ c.in_default.ensures)

pub returns-then-ne-clause-refused : goal.returns-then-ne-clause-refused
returns-then-ne-clause-refused c marked =
    let rest = c.args.rest.now in
    let len = c.as_bytes-bytes.ensures.len in
    let same = c.as_bytes-bytes.ensures.value in
    let enough = c.if-bytes-lt66.false in
    refusal-no_spaces marked (plain_layout rest) (le-ltb (length rest) 66 (omega (arith, len, enough)))
    (ap (λ t. list_all is_hex_digit (take 64 t)) (sym same)
    ∙ list_all-from_ok (take 64 c.as_bytes-bytes.result.now) c.in-Some.digest c.in-Some.ensures)
    (ap (λ t. bytes_eq (take 2 (drop 64 t)) spaces) (sym same)
    ∙ ap (bytes_eq (take 2 (drop 64 c.as_bytes-bytes.result.now))) (sym c.as_slice.ensures)
    ∙ not-true _ (sym c.if-ne.ensures))

pub range_from-raw_name-requires : goal.range_from-raw_name-requires
range_from-raw_name-requires c =
    let rest = c.args.rest.now in
    let len = c.as_bytes-bytes.ensures.len in
    let enough = c.if-bytes-lt66.false in
    let spaced = ap (λ t. bytes_eq (take 2 (drop 64 t)) spaces) (sym c.as_bytes-bytes.ensures.value)
    ∙ ap (bytes_eq (take 2 (drop 64 c.as_bytes-bytes.result.now))) (sym c.as_slice.ensures)
    ∙ not-false _ (sym c.if-ne.ensures) in
    λ _. IsCharBoundary-name rest c.utf8.rest (omega (arith, len, enough)) spaced

pub returns-clause-taken : goal.returns-clause-taken
returns-clause-taken c =
    let rest = c.args.rest.now in
    let len = c.as_bytes-bytes.ensures.len in
    let enough = c.if-bytes-lt66.false in
    record {
      long = le-ltb (length rest) 66 (omega (arith, len, enough));
      digits = ap (λ t. decode_of (take 64 t)) (sym c.as_bytes-bytes.ensures.value)
          ∙ c.in-Some.ensures;
      parted = ap (λ t. bytes_eq (take 2 (drop 64 t)) spaces) (sym c.as_bytes-bytes.ensures.value)
          ∙ ap (bytes_eq (take 2 (drop 64 c.as_bytes-bytes.result.now))) (sym c.as_slice.ensures)
          ∙ not-false _ (sym c.if-ne.ensures);
      spelling = c.range_from-raw_name.ensures.value;
    }
