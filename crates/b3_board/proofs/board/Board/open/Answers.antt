use Rattle.std.proofs.Common.{◌≡◌, ◌≤◌, List, [], map, sum_by, sym, refl, subst, ap, ◌∙◌}
use Rattle.std.proofs.lemmas.Bool.{false≢true}
use Rattle.b3_core.specs.Tree.{chunks}
use Rattle.b3_board.specs.declared.entries.Entry.{Entry}
use Rattle.b3_board.specs.Entries.{Lawful, at, fresh, kept_count, open_count, open_spans, pieces}
use Rattle.b3_board.proofs.Cuttings.{kept_none, lawful_new, open_count-fresh, open_spans-fresh, pieces-fresh}
use Rattle.b3_board.proofs.LawfulStates.{IsLawful-seen}
use Rattle.b3_board.proofs.board.Board.open.Goals as goal

pub invariant_of-board : goal.invariant_of-board
invariant_of-board g c =
    let l = g.L.InputLedger in
    let spans = c.args.spans.now in
    let items : c.in_ok-entries.entries.items ≡ map fresh spans = c.in_ok-entries.ensures in
    record {
      lawful = subst (Lawful l.input l.mode l.first) (sym items)
          (lawful_new l.input l.mode l.first spans c.requires.cutting);
      booked = ap (sum_by kept_count) items ∙ kept_none spans ∙ sym c.open-account.ensures.chunks;
      few = λ i. subst (λ (es : List Entry). open_count (at es i) ≤ g.H.Backing.grain) (sym items)
          (open_count-fresh (chunks l.input.len) g.H.Backing.grain spans c.requires.cutting c.requires.few i);
      not_sure = λ some sure. false≢true some;
    }

pub returns-clause-board : goal.returns-clause-board
returns-clause-board g c =
    let l = g.L.InputLedger in
    let spans = c.args.spans.now in
    let items : c.in_ok-entries.entries.items ≡ map fresh spans = c.in_ok-entries.ensures in
    let opens : open_spans c.in_ok-entries.entries.items ≡ spans = ap open_spans items ∙ open_spans-fresh spans in
    let none : pieces c.in_ok-entries.entries.items ≡ [] = ap pieces items ∙ pieces-fresh spans in
    (λ i. record {
      input = l.input;
      mode = l.mode;
      first = l.first;
      open_spans = opens i;
      pieces = none i;
      book = c.open-account.ensures.chunks i;
    })

pub returns-clause-lawful : goal.returns-clause-lawful
returns-clause-lawful g c = IsLawful-seen (invariant_of-board g c) refl
