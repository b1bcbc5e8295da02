use Rattle.std.proofs.Common.{◌≡◌, ◌≢◌, ℕ, ◌+◌, List, None, map, set, sum_by, arith, refl, sym, subst, ap, ◌∙◌}
use Rattle.std.proofs.lemmas.Bool.{false≢true}
use Rattle.std.proofs.lemmas.List.{with_items_is}
use Rattle.std.specs.List.{Contains}
use Rattle.std.specs.Vec.{with_items}
use Rattle.b3_core.specs.declared.spans.Span.{Span}
use Rattle.b3_board.specs.Entries.{KeepsBoard, at, kept_chunk, kept_count, open_span}
use Rattle.b3_board.specs.BoardStates.{IsDeposit, BoardState, Piece}
use Rattle.b3_board.specs.declared.entries.Entry.{Entry}
use Rattle.b3_board.specs.Spans.{IsNodeOf, chunk_in}
use Rattle.b3_board.specs.declared.entries.State.TheVariants.{Open}
use Rattle.b3_board.proofs.Deposits.{Contains-open, deposited, not_open}
use Rattle.b3_board.proofs.LawfulStates.{IsLawful-seen, state_of}
use Rattle.b3_board.proofs.OpenSpans.{open_count-closed, same_length}
use Rattle.b3_board.proofs.board.Board.deposit_own.Goals as goal

pub returns-in_default-clause-ok : goal.returns-in_default-clause-ok
returns-in_default-clause-ok g c =
    let board = c.self.inside in
    let none : (i : ℕ) → (at board.entries.items i).state ≡ Open → (at board.entries.items i).span ≢ c.own.inside.span =
    rw c.as_slice.ensures.value at c.in_default.ensures.none in
    let absent : ¬ Contains c.args.self.now.open_spans c.args.own.span =
    subst (λ (p : BoardState). ¬ Contains p.open_spans c.args.own.span) c.self.view_is
    (not_open board.entries.items c.args.own.span
    (λ i state_is span_is. none i state_is (span_is ∙ sym (ap (λ (d : Piece). d.span) c.own.view_is)))) in
    (λ h. absurd (false≢true h), λ own. absurd (absent own))

pub returns-in_default-clause-lawful : goal.returns-in_default-clause-lawful
returns-in_default-clause-lawful g c = IsLawful-seen c.self.invariant c.self.view_is

pub returns-clause-ok : goal.returns-clause-ok
returns-clause-ok g c =
    let board = c.self.inside in
    let found = rw c.as_slice.ensures.value at c.in-Some.ensures.found in
    let there = Contains-open board.entries.items c.in-Some.place c.args.own.span found.0 found.1 (found.2
    ∙ (ap (λ (d : Piece). d.span) c.own.view_is)) in
    (λ h. subst (λ (p : BoardState). Contains p.open_spans c.args.own.span) c.self.view_is there, λ h. refl)

pub returns-clause-step : goal.returns-clause-step
returns-clause-step g c =
    let board = c.self.inside in
    let l = g.L.InputLedger in
    let found = rw c.as_slice.ensures.value at c.in-Some.ensures.found in
    let opens : map open_span c.close_span.new.entries ≡ set (map open_span board.entries.items) c.in-Some.place None =
    rw c.as_mut_slice.ensures.value at c.close_span.ensures.opens in
    let span_is = ap (λ (d : Piece). d.span) c.own.view_is in
    let closed : Span = (at board.entries.items c.in-Some.place).span in
    let joins : (k : ℕ) → sum_by (kept_chunk k) c.close_span.new.entries
    ≡ sum_by (kept_chunk k) board.entries.items + chunk_in k closed.first closed.count =
    λ k. rw c.as_mut_slice.ensures.value at (c.close_span.ensures.chunks k) in
    let of : List Entry → ℕ → BoardState = state_of l.input l.mode l.first in
    let step = deposited l.input l.mode l.first board.entries.items c.close_span.new.entries c.in-Some.place
    c.args.own.span board.account.chunks found.1 (found.2 ∙ span_is) opens joins in
    let book_is = c.credit.ensures.chunks ∙ ap (λ (s : Span). board.account.chunks + s.count) span_is in
    let before = of board.entries.items board.account.chunks in
    let booked = subst (λ (b : ℕ). IsDeposit before c.args.own.span (of c.close_span.new.entries b)) (sym book_is) step in
    let items : (with_items board.entries c.close_span.new.entries).items ≡ c.close_span.new.entries =
    with_items_is board.entries c.close_span.new.entries
    (same_length board.entries.items c.close_span.new.entries c.in-Some.place opens ∙ sym board.entries.ok.0) in
    let after = of c.close_span.new.entries c.credit.new.self.chunks in
    let moved = subst (λ (p : BoardState). IsDeposit p c.args.own.span after) c.self.view_is booked in
    let P : List Entry → Type 0 =
    λ es. IsDeposit c.args.self.now c.args.own.span (of es c.credit.new.self.chunks) in
    subst P (sym items) moved

pub invariant_of-self : goal.invariant_of-self
invariant_of-self g c =
    let board = c.self.inside in
    let l = g.L.InputLedger in
    let found = rw c.as_slice.ensures.value at c.in-Some.ensures.found in
    let count : sum_by kept_count c.close_span.new.entries
    ≡ sum_by kept_count board.entries.items + (at board.entries.items c.in-Some.place).span.count =
    rw c.as_mut_slice.ensures.value at c.close_span.ensures.count in
    let opens : map open_span c.close_span.new.entries ≡ set (map open_span board.entries.items) c.in-Some.place None =
    rw c.as_mut_slice.ensures.value at c.close_span.ensures.opens in
    let items : (with_items board.entries c.close_span.new.entries).items ≡ c.close_span.new.entries =
    with_items_is board.entries c.close_span.new.entries
    (same_length board.entries.items c.close_span.new.entries c.in-Some.place opens ∙ sym board.entries.ok.0) in
    let P : List Entry → Type 0 =
    λ es. KeepsBoard l.input l.mode l.first g.H.Backing.grain g.H.Backing.sure es c.credit.new.self.chunks board.missed in
    subst P (sym items) (record {
      lawful = c.close_span.ensures.lawful;
      booked = omega (
        arith,
        count,
        c.self.invariant.booked,
        c.credit.ensures.chunks,
        ap (λ (s : Span). s.count) found.2,
      );
      few = λ i. omega (
        arith,
        open_count-closed board.entries.items c.close_span.new.entries c.in-Some.place found.0 opens i,
        c.self.invariant.few i,
      );
      not_sure = c.self.invariant.not_sure;
    })

pub returns-clause-lawful : goal.returns-clause-lawful
returns-clause-lawful g c = IsLawful-seen (invariant_of-self g c) refl

pub close_span-requires-clause-top : goal.close_span-requires-clause-top
close_span-requires-clause-top g c =
    let l = g.L.InputLedger in
    let found = rw c.as_slice.ensures.value at c.in-Some.ensures.found in
    let top : IsNodeOf l.input l.mode l.first (at c.self.inside.entries.items c.in-Some.place).span c.own.inside.node =
    subst (λ (s : Span). IsNodeOf l.input l.mode l.first s c.own.inside.node) (sym found.2) c.own.invariant.node_is in
    rw c.as_mut_slice.ensures.value top

pub close_span-requires-clause-lawful : goal.close_span-requires-clause-lawful
close_span-requires-clause-lawful g c = rw c.as_mut_slice.ensures.value c.self.invariant.lawful

pub find_open-requires : goal.find_open-requires
find_open-requires g c = rw c.as_slice.ensures.value c.self.invariant.lawful.sound.in_order
