use Rattle.std.proofs.Common.{inl, inr, length, arith, ap, rules}
use Rattle.std.proofs.lemmas.Bool.{cases_lt}
use Rattle.std.proofs.lemmas.List.{get_or_past}
use Rattle.b3_board.specs.Entries.{nothing, open_span}
use Rattle.b3_board.proofs.OpenSpans.{all_kept}
use Rattle.b3_board.proofs.merging.close_all.Goals as goal

pub returns-clause-none : goal.returns-clause-none
returns-clause-none g c = λ i. elim (cases_lt i (length c.spans.entries)) [
  | inl short ↦ c.spans.invariant.closed i (omega (arith, c.spans.invariant.len, c.spans-test.false))
  | inr past ↦ ap open_span (get_or_past c.spans.entries i nothing past)
]

pub returns-clause-waiting : goal.returns-clause-waiting
returns-clause-waiting g c =
    let l = g.L.InputLedger in
    let now = c.spans.invariant in
    let all = all_kept l.input l.mode l.first c.spans.entries now.lawful
    (returns-clause-none g c) in
    omega (arith, all, c.spans.invariant.count, c.requires.lawful.sound.all)

pub spans-init : goal.spans-init
spans-init g c = search rules
