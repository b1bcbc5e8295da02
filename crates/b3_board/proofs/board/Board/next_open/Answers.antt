use Rattle.std.proofs.Common.{◌≡◌, [], ◌+◌, ◌<◌, ◌≤◌, arith, subst, ap}
use Rattle.std.specs.List.{Contains, slice_get}
use Rattle.std.specs.Option.{IfNone, IfSome}
use Rattle.b3_core.specs.Tree.{chunks}
use Rattle.b3_core.specs.declared.spans.Span.{Span}
use Rattle.b3_board.specs.Entries.{at, if_open, open_count, open_spans}
use Rattle.b3_board.specs.BoardStates.{BoardState}
use Rattle.b3_board.specs.declared.entries.State.{State}
use Rattle.b3_board.proofs.Deposits.{first_open, first_open-Contains, first_open-none}
use Rattle.b3_board.proofs.OpenSpans.{open_inside}
use Rattle.b3_board.proofs.board.Board.next_open.Goals as goal

pub returns-clause-open : goal.returns-clause-open
returns-clause-open g c =
    let es = c.self.inside.entries.items in
    let is : c.nth_open.result ≡ slice_get (open_spans es) 0 = rw c.as_slice.ensures.value at c.nth_open.ensures in
    subst (λ (p : BoardState). IfSome c.nth_open.result (Contains p.open_spans)) c.self.view_is
    (first_open-Contains es c.nth_open.result is)

pub returns-clause-none : goal.returns-clause-none
returns-clause-none g c =
    let es = c.self.inside.entries.items in
    let is : c.nth_open.result ≡ slice_get (open_spans es) 0 = rw c.as_slice.ensures.value at c.nth_open.ensures in
    subst (λ (p : BoardState). IfNone c.nth_open.result (p.open_spans ≡ [])) c.self.view_is
    (first_open-none es c.nth_open.result is)

pub returns-clause-inside : goal.returns-clause-inside
returns-clause-inside g c =
    let l = g.L.InputLedger in
    let es = c.self.inside.entries.items in
    let is : c.nth_open.result ≡ slice_get (open_spans es) 0 = rw c.as_slice.ensures.value at c.nth_open.ensures in
    first_open es (λ (s : Span). s.first + s.count ≤ chunks l.input.len)
    (λ i state_is. (open_inside l.input l.mode l.first es c.self.invariant.lawful i state_is).0) c.nth_open.result is

pub returns-clause-some : goal.returns-clause-some
returns-clause-some g c =
    let l = g.L.InputLedger in
    let es = c.self.inside.entries.items in
    let is : c.nth_open.result ≡ slice_get (open_spans es) 0 = rw c.as_slice.ensures.value at c.nth_open.ensures in
    first_open es (λ (s : Span). 0 < s.count)
    (λ i state_is. (open_inside l.input l.mode l.first es c.self.invariant.lawful i state_is).1) c.nth_open.result is

pub returns-clause-few : goal.returns-clause-few
returns-clause-few g c =
    let es = c.self.inside.entries.items in
    let is : c.nth_open.result ≡ slice_get (open_spans es) 0 = rw c.as_slice.ensures.value at c.nth_open.ensures in
    first_open es (λ (s : Span). s.count ≤ g.H.Backing.grain)
    (λ i state_is.
    let counted : open_count (at es i) ≡ (at es i).span.count =
    ap (λ (state : State). if_open state (at es i).span.count) state_is in
    omega (arith, counted, c.self.invariant.few i)) c.nth_open.result is
