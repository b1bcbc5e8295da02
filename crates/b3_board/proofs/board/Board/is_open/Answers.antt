use Rattle.std.proofs.Common.{◌≡◌, ◌≢◌, ℕ, ◌+◌, ◌<◌, ◌≤◌, refl, subst}
use Rattle.std.proofs.lemmas.Bool.{false≢true}
use Rattle.std.specs.List.{Contains}
use Rattle.b3_core.specs.Tree.{chunks}
use Rattle.b3_core.specs.declared.spans.Span.{Span}
use Rattle.b3_board.specs.Entries.{at}
use Rattle.b3_board.specs.BoardStates.{BoardState}
use Rattle.b3_board.specs.declared.entries.State.TheVariants.{Open}
use Rattle.b3_board.proofs.Deposits.{Contains-open, not_open}
use Rattle.b3_board.proofs.OpenSpans.{open_inside}
use Rattle.b3_board.proofs.LawfulStates.{IsLawful-seen}
use Rattle.b3_board.proofs.board.Board.is_open.Goals as goal

pub returns-in_default-clause-open : goal.returns-in_default-clause-open
returns-in_default-clause-open g c =
    let es = c.self.inside.entries.items in
    let none : (i : ℕ) → (at es i).state ≡ Open → (at es i).span ≢ c.args.span =
    rw c.as_slice.ensures.value at c.in_default.ensures.none in
    let absent : ¬ Contains c.args.self.now.open_spans c.args.span =
    subst (λ (p : BoardState). ¬ Contains p.open_spans c.args.span) c.self.view_is (not_open es c.args.span none) in
    (λ h. absurd (false≢true h), λ there. absurd (absent there))

pub returns-in_default-clause-lawful : goal.returns-in_default-clause-lawful
returns-in_default-clause-lawful g c = IsLawful-seen c.self.invariant c.self.view_is

pub returns-clause-open : goal.returns-clause-open
returns-clause-open g c =
    let found = rw c.as_slice.ensures.value at c.in-Some.ensures.found in
    let there = Contains-open c.self.inside.entries.items c.in-Some._place c.args.span found.0 found.1 found.2 in
    (λ h. subst (λ (p : BoardState). Contains p.open_spans c.args.span) c.self.view_is there, λ h. refl)

pub returns-clause-inside : goal.returns-clause-inside
returns-clause-inside g c = λ h.
    let l = g.L.InputLedger in
    let es = c.self.inside.entries.items in
    let found = rw c.as_slice.ensures.value at c.in-Some.ensures.found in
    subst (λ (s : Span). s.first + s.count ≤ chunks l.input.len) found.2
    (open_inside l.input l.mode l.first es c.self.invariant.lawful c.in-Some._place found.1).0

pub returns-clause-some : goal.returns-clause-some
returns-clause-some g c = λ h.
    let l = g.L.InputLedger in
    let es = c.self.inside.entries.items in
    let found = rw c.as_slice.ensures.value at c.in-Some.ensures.found in
    subst (λ (s : Span). 0 < s.count) found.2
    (open_inside l.input l.mode l.first es c.self.invariant.lawful c.in-Some._place found.1).1

pub returns-clause-lawful : goal.returns-clause-lawful
returns-clause-lawful g c = IsLawful-seen c.self.invariant c.self.view_is

pub find_open-requires : goal.find_open-requires
find_open-requires g c = rw c.as_slice.ensures.value c.self.invariant.lawful.sound.in_order
