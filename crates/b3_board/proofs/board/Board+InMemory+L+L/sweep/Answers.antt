use Rattle.std.proofs.lemmas.Grind.{common_steps}
use Rattle.std.proofs.Common.{◌≡◌, ◌+◌, List, length, sum_by, rules, arith, sym, subst, ap, ◌∙◌}
use Rattle.std.proofs.lemmas.List.{with_items_is}
use Rattle.std.specs.Vec.{with_items}
use Rattle.b3_core.specs.declared.spans.Span.{Span}
use Rattle.b3_board.specs.Entries.{kept_count, open_count, open_spans}
use Rattle.b3_board.specs.BoardStates.{IsLawful, BoardState}
use Rattle.b3_board.specs.Spans.{chunks_in}
use Rattle.b3_board.specs.declared.entries.Entry.{Entry}
use Rattle.b3_board.proofs.Deposits.{nil-from_none_open}
use Rattle.b3_board.proofs.LawfulStates.{IsLawful-in_memory, lawful_state, state_of, sum_open}
use Rattle.b3_board.proofs.board.Board+InMemory+L+L.sweep.Goals as goal

pub returns-clause-waiting : goal.returns-clause-waiting
returns-clause-waiting g c =
    let board = c.self.inside in
    let waiting : c.close_all-count.result ≡ sum_by open_count board.entries.items = search (
      rules,
      c.close_all-count.ensures.waiting,
      c.as_mut_slice.ensures.value,
    ) in
    subst (λ (p : BoardState). c.close_all-count.result ≡ chunks_in p.open_spans) c.self.view_is (waiting
    ∙ sym (sum_open (λ (s : Span). s.count) board.entries.items))

pub returns-clause-none_open : goal.returns-clause-none_open
returns-clause-none_open g c =
    let board = c.self.inside in
    let items : (with_items board.entries c.close_all-count.new.entries).items ≡ c.close_all-count.new.entries =
    with_items_is board.entries c.close_all-count.new.entries (c.close_all-count.ensures.len
    ∙ ap length c.as_mut_slice.ensures.value ∙ sym board.entries.ok.0) in
    ap open_spans items ∙ nil-from_none_open c.close_all-count.new.entries c.close_all-count.ensures.none

pub returns-clause-same_input : goal.returns-clause-same_input
returns-clause-same_input g c = record {
  input_is = ap (λ (p : BoardState). p.input) c.self.view_is;
  mode_is = ap (λ (p : BoardState). p.mode) c.self.view_is;
  first_is = ap (λ (p : BoardState). p.first) c.self.view_is;
}

pub returns-clause-lawful : goal.returns-clause-lawful
returns-clause-lawful g c =
    let board = c.self.inside in
    let l = g.L.InputLedger in
    let items : (with_items board.entries c.close_all-count.new.entries).items ≡ c.close_all-count.new.entries =
    with_items_is board.entries c.close_all-count.new.entries (c.close_all-count.ensures.len
    ∙ ap length c.as_mut_slice.ensures.value ∙ sym board.entries.ok.0) in
    let count : sum_by kept_count c.close_all-count.new.entries
    ≡ sum_by kept_count board.entries.items + c.close_all-count.result =
    search (rules, c.close_all-count.ensures.count, c.as_mut_slice.ensures.value) in
    let booked : sum_by kept_count c.close_all-count.new.entries ≡ c.credit.new.self.chunks =
    omega (arith, count, c.self.invariant.booked, c.credit.ensures.chunks) in
    let P : List Entry → Type 0 =
    λ es. IsLawful (state_of l.input l.mode l.first es c.credit.new.self.chunks) in
    subst P (sym items)
    (lawful_state l.input l.mode l.first c.close_all-count.new.entries
    c.close_all-count.ensures.lawful c.credit.new.self.chunks booked)

pub returns-clause-tops : goal.returns-clause-tops
returns-clause-tops g c all is = IsLawful-in_memory all _ is (returns-clause-lawful g c)

pub invariant_of-self : goal.invariant_of-self
invariant_of-self g c = grind (arith, common_steps)

pub returns-clause-book : goal.returns-clause-book
returns-clause-book g c = search rules

pub returns-clause-share : goal.returns-clause-share
returns-clause-share g c = c.credit.ensures.share

pub close_all-count-requires : goal.close_all-count-requires
close_all-count-requires g c = rw c.as_mut_slice.ensures.value (record { lawful = c.self.invariant.lawful })
