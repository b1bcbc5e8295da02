use Rattle.std.proofs.Common.{◌∙◌, ap, sym}
use Rattle.b3_core.specs.Tree.{chunks}
use Rattle.b3_board.specs.Spans.{KnownInput}
use Rattle.b3_board.proofs.from_source.hash_source_on.Goals as goal

pub returns-clause-shares : goal.returns-clause-shares
returns-clause-shares g c = c.add_to_first.ensures.shares ∙ rw c.in-Some.is at c.in_ok-report.ensures.shares

pub returns-clause-all : goal.returns-clause-all
returns-clause-all g c =
    c.add_to_first.ensures.sum ∙ rw c.in-Some.is at c.in_ok-report.ensures.all
    ∙ ap (λ (k : KnownInput). chunks k.len) (sym c.requires.own.input_is)

pub returns-clause-claimed : goal.returns-clause-claimed
returns-clause-claimed g c = rw c.in-Some.is at c.in_ok-report.ensures.claimed

pub returns-clause-root : goal.returns-clause-root
returns-clause-root g c = rw c.in-Some.is at c.in_ok-report.ensures.root

pub returns-in_default-clause-sure : goal.returns-in_default-clause-sure
returns-in_default-clause-sure g c = λ sure. rw c.in_default.is at (c.in_ok-report.ensures.sure sure)
