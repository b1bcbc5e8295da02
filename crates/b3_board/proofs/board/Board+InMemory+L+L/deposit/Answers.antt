use Rattle.std.proofs.Common.{◌<◌, ap, refl, subst, sym, ◌∙◌, rules}
use Rattle.std.proofs.lemmas.Bool.{false≢true}
use Rattle.std.specs.List.{Contains}
use Rattle.b3_core.specs.declared.spans.Span.{Span}
use Rattle.b3_board.specs.Plans.{DoneState}
use Rattle.b3_board.specs.BoardStates.{BoardState, IsOwn}
use Rattle.b3_board.specs.Spans.{KnownInput, part}
use Rattle.b3_board.proofs.KnownNodes.{some_is}
use Rattle.b3_board.proofs.LawfulStates.{IsLawful-in_memory}
use Rattle.b3_board.proofs.board.Board+InMemory+L+L.deposit.Goals as goal

pub returns-clause-ok : goal.returns-clause-ok
returns-clause-ok g c =
    let tree = c.self.inside.backing in
    let is_of = c.if-not-is_of.ensures.0 refl in
    let own : IsOwn c.args.self.now c.args.done = record {
      all = tree.tree.input.now;
      input_is = sym (ap (λ (p : BoardState). p.input) c.self.view_is) ∙ sym tree.input_is;
      bytes_are = is_of.0;
      mode_is = is_of.1 ∙ tree.mode_is ∙ ap (λ (p : BoardState). p.mode) c.self.view_is;
      first_is = is_of.2 ∙ tree.first_is ∙ ap (λ (p : BoardState). p.first) c.self.view_is;
    } in
    let there = subst (Contains c.args.self.now.open_spans) (ap (λ (d : DoneState). d.span) c.done.view_is)
    (c.if-not-is_open.ensures.open.0 refl) in
    (λ h. (there, own), λ h. refl)

pub returns-clause-other_bytes : goal.returns-clause-other_bytes
returns-clause-other_bytes g c = λ there foreign. absurd (foreign ((returns-clause-ok g c).0 refl).1)

pub returns-clause-step : goal.returns-clause-step
returns-clause-step g c = rw c.of_done.ensures at c.in-Ok.ensures.step

pub returns-then-not-is_of-clause-ok : goal.returns-then-not-is_of-clause-ok
returns-then-not-is_of-clause-ok g c =
    let tree = c.self.inside.backing in (
      λ h. absurd (false≢true h),
      λ h.
          let own = h.1 in
          let input_is = ap (λ (p : BoardState). p.input) c.self.view_is in
          let all_is = some_is _ _ (ap (λ (k : KnownInput). k.told) (sym own.input_is ∙ sym input_is ∙ sym tree.input_is)) in
          c.if-not-is_of.ensures.1 (
            own.bytes_are ∙ ap (λ bytes. part bytes c.args.done.span.first c.args.done.span.count) all_is,
            own.mode_is ∙ sym (ap (λ (p : BoardState). p.mode) c.self.view_is) ∙ sym tree.mode_is,
            own.first_is ∙ sym (ap (λ (p : BoardState). p.first) c.self.view_is) ∙ sym tree.first_is,
          ),
    )

pub returns-clause-tops : goal.returns-clause-tops
returns-clause-tops g c = λ all is. IsLawful-in_memory all _ is c.deposit_own.ensures.lawful

pub returns-then-not-is_open-clause-other_bytes : goal.returns-then-not-is_open-clause-other_bytes
returns-then-not-is_open-clause-other_bytes g c = search rules

pub unreachable-requires : goal.unreachable-requires
unreachable-requires g c =
    let there = subst (Contains c.args.self.now.open_spans) (ap (λ (d : DoneState). d.span) c.done.view_is)
    (c.if-not-is_open.ensures.open.0 refl) in
    false≢true ((rw c.of_done.ensures at c.in-Err.ensures.ok).1 there)

pub returns-then-not-is_open-clause-ok : goal.returns-then-not-is_open-clause-ok
returns-then-not-is_open-clause-ok g c =
    let there = subst (Contains c.args.self.now.open_spans) (sym (ap (λ (d : DoneState). d.span) c.done.view_is)) in
    (λ h. absurd (false≢true h), λ h. c.if-not-is_open.ensures.open.1 (there h.0))

pub is_of-requires-clause-some : goal.is_of-requires-clause-some
is_of-requires-clause-some g c =
    subst (λ (s : Span). 0 < s.count) (ap (λ (d : DoneState). d.span) c.done.view_is) (c.if-not-is_open.ensures.some refl)

pub returns-clause-not_open : goal.returns-clause-not_open
returns-clause-not_open g c = λ absent. absurd (absent ((returns-clause-ok g c).0 refl).0)
