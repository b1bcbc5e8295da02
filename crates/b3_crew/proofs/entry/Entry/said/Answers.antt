use Rattle.std.proofs.Common.{◌≡◌, sym, ◌∙◌}
use Rattle.b3_io.specs.declared.items.Item.TheVariants.{Ask as AskItem}
use Rattle.b3_crew.proofs.CrewLemmas.{counted-message, failures-one}
use Rattle.b3_crew.proofs.entry.Entry.said.Goals as goal

pub returns-in_ok-finding-in-Ask-clause-right : goal.returns-in_ok-finding-in-Ask-clause-right
returns-in_ok-finding-in-Ask-clause-right g c =
    let is : c.args.self.now.1 ≡ AskItem c.in-Ask.field-0 = sym c.item.ensures.item ∙ c.in-Ask.is in
    let found = rw (← c.in_ok-finding-in-Ask.ensures.value) at c.requires in
    rw is (found _ (rw c.in-Ask.is at c.item.ensures.is))

pub returns-in_ok-finding-in-Ask-clause-one : goal.returns-in_ok-finding-in-Ask-clause-one
returns-in_ok-finding-in-Ask-clause-one g c =
    let found = rw (← c.in_ok-finding-in-Ask.ensures.value) at c.requires in
    failures-one g.L.RunInput.start g.L.RunInput.range (AskItem c.in-Ask.field-0) c.in_ok-finding-in-Ask.finding.now.message
    c.in_ok-finding-in-Ask.finding.now.failures (found _ (rw c.in-Ask.is at c.item.ensures.is))

pub returns-in_ok-finding-in-Ask-clause-twice : goal.returns-in_ok-finding-in-Ask-clause-twice
returns-in_ok-finding-in-Ask-clause-twice g c =
    let found = rw (← c.in_ok-finding-in-Ask.ensures.value) at c.requires in
    counted-message g.L.RunInput.start g.L.RunInput.range (AskItem c.in-Ask.field-0)
    c.in_ok-finding-in-Ask.finding.now.message c.in_ok-finding-in-Ask.finding.now.failures
    (rw c.in-Ask.is at c.item.ensures.fit) (found _ (rw c.in-Ask.is at c.item.ensures.is))
