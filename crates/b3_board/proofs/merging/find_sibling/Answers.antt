use Rattle.std.proofs.Common.{◌<◌, sym, ap, ◌∙◌, rules}
use Rattle.std.proofs.lemmas.Bool.{false≢true}
use Rattle.b3_board.specs.Entries.{at, is_kept}
use Rattle.b3_board.proofs.Partners.{what_is_kept, none_there, other_there, whole_alone}
use Rattle.b3_board.proofs.merging.find_sibling.Goals as goal

pub returns-in_default-clause-none : goal.returns-in_default-clause-none
returns-in_default-clause-none c = λ k kept siblings.
    let whole : (at c.args.entries.now c.args.here).span.count < c.args.n → ⊥ =
    λ short. false≢true (c.in_default.ensures.there.1 (c.requires.subtree, short)) in
    whole_alone c.args.n _ _ c.requires.some whole siblings

pub returns-in_default-find-clause-none : goal.returns-in_default-find-clause-none
returns-in_default-find-clause-none c =
    none_there c.args.n c.args.entries.now _ c.in-Some.other c.requires.some c.in-Some.ensures.found
    c.in_default-find.ensures.none

pub returns-then-entries-place-clause-none : goal.returns-then-entries-place-clause-none
returns-then-entries-place-clause-none c = λ k kept siblings.
    let found = c.in-Some-find.ensures.found in
    let there = other_there c.args.n c.args.entries.now _ c.in-Some.other c.requires.some c.requires.in_order
    c.in-Some.ensures.found c.in-Some-find.place found.0 found.1 k kept siblings in
    c.if-entries-place.true there.1

pub returns-in_default-state : goal.returns-in_default-state
returns-in_default-state c = record {
  found = tt;
  none = λ k kept siblings.
      let found = c.in-Some-find.ensures.found in
      let there = other_there c.args.n c.args.entries.now _ c.in-Some.other c.requires.some c.requires.in_order
      c.in-Some.ensures.found c.in-Some-find.place found.0 found.1 k kept siblings in
      let node = what_is_kept _ (ap (λ x. is_kept (at c.args.entries.now x).state) (sym there.0) ∙ kept) in
      c.in_default-state.not-Kept node.0 node.1;
}

pub returns-in-Kept-clause-found : goal.returns-in-Kept-clause-found
returns-in-Kept-clause-found c =
    let found = c.in-Some-find.ensures.found in
    (found.0, ap is_kept c.in-Kept.is, rw (found.1, c.if-entries-place.false) (search rules))
