use Rattle.std.proofs.Common.{true, refl, sym, subst, ap, ◌∙◌}
use Rattle.std.proofs.lemmas.Bool.{false≢true}
use Rattle.b3_core.specs.Tree.{top}
use Rattle.b3_core.specs.declared.nodes.Node.{Node}
use Rattle.b3_board.specs.Entries.{NoneOpen}
use Rattle.b3_board.specs.BoardStates.{BoardState}
use Rattle.b3_board.specs.RootNodes.{RootNode}
use Rattle.b3_board.specs.Spans.{IsRootOf}
use Rattle.b3_board.proofs.Deposits.{nil-from_none_open, none_open-from_nil}
use Rattle.b3_board.proofs.KnownNodes.{IsRootOf-told}
use Rattle.b3_board.proofs.LawfulStates.{IsLawful-seen}
use Rattle.b3_board.proofs.board.Board.root.Goals as goal

pub returns-in_default-clause-there : goal.returns-in_default-clause-there
returns-in_default-clause-there g c = (
  λ h. absurd (false≢true h),
  λ nil.
      let none = none_open-from_nil c.self.inside.entries.items
      (ap (λ (p : BoardState). p.open_spans) c.self.view_is ∙ nil) in
      absurd (false≢true (c.in_default.ensures.there.1 (subst NoneOpen (sym c.as_slice.ensures.value) none))),
)

pub returns-clause-there : goal.returns-clause-there
returns-clause-there g c = (
  λ h.
      let none = subst NoneOpen c.as_slice.ensures.value (c.in-Some.ensures.there.0 refl) in
      sym (ap (λ (p : BoardState). p.open_spans) c.self.view_is)
      ∙ nil-from_none_open c.self.inside.entries.items none,
  λ nil. refl,
)

pub returns-clause-root : goal.returns-clause-root
returns-clause-root g c =
    let top = subst (λ (p : BoardState). IsRootOf p.input p.mode p.first c.in-Some.node) c.self.view_is
    c.in-Some.ensures.top in
    subst (λ (r : RootNode). IsRootOf c.args.self.now.input c.args.self.now.mode c.args.self.now.first r.node)
    (sym c.of_board.ensures) top

pub returns-clause-told : goal.returns-clause-told
returns-clause-told g c = λ all told.
    let l = g.L.InputLedger in
    let node = IsRootOf-told l.input l.mode l.first c.in-Some.node c.in-Some.ensures.top all
    (ap (λ (p : BoardState). p.input.told) c.self.view_is ∙ told)
    ∙ ap (λ (p : BoardState). top p.mode p.first all) c.self.view_is in
    c.of_board.ensures ∙ ap (λ (x : Node). record { node = x; kept = true }) node

pub returns-in_default-clause-lawful : goal.returns-in_default-clause-lawful
returns-in_default-clause-lawful g c = IsLawful-seen c.self.invariant c.self.view_is

pub returns-clause-lawful : goal.returns-clause-lawful
returns-clause-lawful g c = IsLawful-seen c.self.invariant c.self.view_is
