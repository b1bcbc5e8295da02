use Rattle.std.proofs.Common.{◌≡◌, ℕ, ◌+◌, ◌-◌, ◌*◌, ◌≤◌, min, List, length, take, drop, Some, arith, sym, ap, ◌∙◌, rules}
use Rattle.std.proofs.lemmas.List.{length-take-le, take_all}
use Rattle.b3_board.specs.Spans.{KnownInput}
use Rattle.b3_board.proofs.RegionBytes.{region_part}
use Rattle.b3_board.proofs.source_plan.SourcePlan.read_at_once.Goals as goal

pub of_bytes-requires-clause-told : goal.of_bytes-requires-clause-told
of_bytes-requires-clause-told g c =
    let plan = c.args.self.now in
    let told = g.S.Source.told plan.source.now in
    let span = c.args.span in
    let bytes = c.read_at.new.buffer in
    let low : 1024 * span.first ≤ plan.len = omega (arith, c.requires.inside, c.requires.some) in
    let here = 1024 * span.first in
    let len : c.span_len-len.result ≡ min (1024 * span.count) (plan.len - here) = c.span_len-len.ensures in
    let fits : c.span_len-len.result ≤ length c.args.buffer.now = omega (arith, len, c.requires.buffer) in
    let buffer = length-take-le c.span_len-len.result c.args.buffer.now fits in
    let full : length bytes ≡ c.span_len-len.result = omega (arith, buffer, c.read_at.auto.buffer) in
    let count : c.in-Some.count ≡ length bytes =
    omega (arith, full, buffer, c.in-Some.ensures.within, c.if-count-len.false) in
    let read : (whole : List ℕ) → told ≡ Some whole
    → bytes ≡ take (min (1024 * span.count) (plan.len - here)) (drop (plan.offset + here) whole) =
    λ whole is.
    sym (take_all c.in-Some.count bytes (omega (arith, count)))
    ∙ c.in-Some.ensures.bytes whole is
    ∙ ap (λ (n : ℕ). take n (drop (plan.offset + here) whole)) (count ∙ full ∙ len) in
    λ all known.
    let is = ap (λ (k : KnownInput). k.told) c.requires.own.input_is ∙ known in
    let h = region_part told plan.offset plan.len span bytes plan.there low read all is in
    (h.0 ∙ ap (λ (k : KnownInput). k.len) c.requires.own.input_is, h.1)

pub of_bytes-requires-clause-mode : goal.of_bytes-requires-clause-mode
of_bytes-requires-clause-mode g c = cc

pub of_bytes-requires-clause-len : goal.of_bytes-requires-clause-len
of_bytes-requires-clause-len g c = search rules

pub returns-clause-span : goal.returns-clause-span
returns-clause-span g c = cc
