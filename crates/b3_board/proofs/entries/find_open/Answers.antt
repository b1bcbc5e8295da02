use Rattle.std.proofs.Common.{sym, ap, ◌∙◌, rules}
use Rattle.b3_board.specs.Entries.{at}
use Rattle.b3_board.proofs.Partners.{open_there}
use Rattle.b3_board.proofs.entries.find_open.Goals as goal

pub returns-then-entries-place-clause-none : goal.returns-then-entries-place-clause-none
returns-then-entries-place-clause-none c = λ i is same.
    let found = c.in-Some.ensures.found in
    let there = open_there c.args.entries.now c.requires c.in-Some.place i found.0 is
    (found.1 ∙ sym (ap (λ s. s.first) same)) in
    c.if-entries-place.true (ap (λ x. (at c.args.entries.now x).span.count) (sym there) ∙ ap (λ s. s.count) same)

pub returns-in_default-state : goal.returns-in_default-state
returns-in_default-state c = record {
  found = tt;
  none = λ i is same.
      let found = c.in-Some.ensures.found in
      let there = open_there c.args.entries.now c.requires c.in-Some.place i found.0 is
      (found.1 ∙ sym (ap (λ s. s.first) same)) in
      c.in_default-state.not-Open (ap (λ x. (at c.args.entries.now x).state) (sym there) ∙ is);
}

pub returns-in-Open : goal.returns-in-Open
returns-in-Open c = search rules
