use Rattle.std.proofs.Common.{◌≡◌, ◌≤◌, ◌-◌, sym, ap, ◌∙◌, arith, length, take, drop}
use Rattle.std.specs.Prelude.{bytes_eq}
use Rattle.std.specs.List.{list_all}
use Rattle.std.proofs.lemmas.Bool.{le-ltb, not-false, not-true}
use Rattle.std.proofs.lemmas.List.{take_rest}
use Rattle.hex.specs.Hex.{decode_of, is_hex_digit}
use Rattle.b3_lines.specs.Reading.{tagged_layout}
use Rattle.b3_lines.specs.Writing.{tag_separator}
use Rattle.b3_lines.proofs.DigitsAndSpaces.{list_all-from_ok}
use Rattle.b3_lines.proofs.Layouts.{IsCharBoundary-tag_prefix, IsCharBoundary-tag_separator}
use Rattle.b3_lines.proofs.Refusals.{refusal-not_digits, refusal-no_spaces}
use Rattle.b3_lines.proofs.reading.cut_tagged.Goals as goal

pub returns-in_default-clause-refused : goal.returns-in_default-clause-refused
returns-in_default-clause-refused c marked =
    let rest = c.args.rest.now in
    let bytes = c.as_bytes-bytes.result.now in
    let len = c.as_bytes-bytes.ensures.len in
    let enough = c.if-bytes-lt76.false in
    let long : 76 ≤ length rest = omega (arith, len, enough) in
    refusal-not_digits marked (tagged_layout rest) (le-ltb (length rest) 76 long)
    (ap (λ t. list_all is_hex_digit (drop (length t - 64) t)) (sym c.as_bytes-bytes.ensures.value)
    ∙ ap (list_all is_hex_digit) (sym (take_rest bytes (length bytes - 64))) ∙ c.in_default.ensures)

pub returns-then-ne-clause-refused : goal.returns-then-ne-clause-refused
returns-then-ne-clause-refused c marked =
    let rest = c.args.rest.now in
    let bytes = c.as_bytes-bytes.result.now in
    let start = length bytes - 64 in
    let len = c.as_bytes-bytes.ensures.len in
    let same = c.as_bytes-bytes.ensures.value in
    let enough = c.if-bytes-lt76.false in
    let four : start - (start - 4) ≡ 4 = omega (arith, enough) in
    refusal-no_spaces marked (tagged_layout rest) (le-ltb (length rest) 76 (omega (arith, len, enough)))
    (ap (λ t. list_all is_hex_digit (drop (length t - 64) t)) (sym same)
    ∙ ap (list_all is_hex_digit) (sym (take_rest bytes start))
    ∙ list_all-from_ok (take (length bytes - start) (drop start bytes)) c.in-Some.digest c.in-Some.ensures)
    (ap (λ t. bytes_eq (take 4 (drop (length t - 64 - 4) t)) tag_separator) (sym same)
    ∙ ap (bytes_eq (take 4 (drop (start - 4) bytes))) (sym c.as_slice.ensures)
    ∙ ap (λ n. bytes_eq (take n (drop (start - 4) bytes)) c.as_slice.result.now) (sym four)
    ∙ not-true _ (sym c.if-ne.ensures))

pub range-raw_name-requires-clause-start_boundary : goal.range-raw_name-requires-clause-start_boundary
range-raw_name-requires-clause-start_boundary c =
    let len = c.as_bytes-bytes.ensures.len in
    let enough = c.if-bytes-lt76.false in
    λ _. IsCharBoundary-tag_prefix c.args.rest.now c.utf8.rest (omega (arith, len, enough)) c.requires

pub range-raw_name-requires-clause-end_boundary : goal.range-raw_name-requires-clause-end_boundary
range-raw_name-requires-clause-end_boundary c =
    let rest = c.args.rest.now in
    let bytes = c.as_bytes-bytes.result.now in
    let start = length bytes - 64 in
    let len = c.as_bytes-bytes.ensures.len in
    let enough = c.if-bytes-lt76.false in
    let four : start - (start - 4) ≡ 4 = omega (arith, enough) in
    let at : length rest - 64 - 4 ≡ start - 4 = omega (arith, len) in
    let parted = ap (λ t. bytes_eq (take 4 (drop (length t - 64 - 4) t)) tag_separator)
    (sym c.as_bytes-bytes.ensures.value)
    ∙ ap (bytes_eq (take 4 (drop (start - 4) bytes))) (sym c.as_slice.ensures)
    ∙ ap (λ n. bytes_eq (take n (drop (start - 4) bytes)) c.as_slice.result.now) (sym four)
    ∙ not-false _ (sym c.if-ne.ensures) in
    rw at at (IsCharBoundary-tag_separator rest (omega (arith, len, enough)) parted)

pub returns-clause-taken : goal.returns-clause-taken
returns-clause-taken c =
    let rest = c.args.rest.now in
    let bytes = c.as_bytes-bytes.result.now in
    let start = length bytes - 64 in
    let len = c.as_bytes-bytes.ensures.len in
    let same = c.as_bytes-bytes.ensures.value in
    let enough = c.if-bytes-lt76.false in
    let four : start - (start - 4) ≡ 4 = omega (arith, enough) in
    let count : start - 4 - 8 ≡ length rest - 64 - 12 = omega (arith, len) in
    record {
      long = le-ltb (length rest) 76 (omega (arith, len, enough));
      digits = ap (λ t. decode_of (drop (length t - 64) t)) (sym same)
          ∙ ap decode_of (sym (take_rest bytes start))
          ∙ c.in-Some.ensures;
      parted = ap (λ t. bytes_eq (take 4 (drop (length t - 64 - 4) t)) tag_separator) (sym same)
          ∙ ap (bytes_eq (take 4 (drop (start - 4) bytes))) (sym c.as_slice.ensures)
          ∙ ap (λ n. bytes_eq (take n (drop (start - 4) bytes)) c.as_slice.result.now) (sym four)
          ∙ not-false _ (sym c.if-ne.ensures);
      spelling = c.range-raw_name.ensures.value ∙ ap (λ n. take n (drop 8 rest)) count;
    }
