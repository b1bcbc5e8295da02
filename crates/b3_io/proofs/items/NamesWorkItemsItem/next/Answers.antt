use Rattle.std.proofs.Common.{ap, arith}
use Rattle.b3_io.specs.Scripts.{Report}
use Rattle.b3_io.specs.Tasks.{counted}
use Rattle.b3_io.proofs.items.NamesWorkItemsItem.next.Goals as goal

pub returns-then-is_bad_name-clause-fit : goal.returns-then-is_bad_name-clause-fit
returns-then-is_bad_name-clause-fit c =
    λ _ _. omega (arith, ap (λ (said : Report). counted said.tally) c.in_ok-failed.ensures)

pub returns-in-Some-NotText-clause-fit : goal.returns-in-Some-NotText-clause-fit
returns-in-Some-NotText-clause-fit c =
    λ _ _. omega (arith, ap (λ (said : Report). counted said.tally) c.in_ok-not_text-in-Some-NotText.ensures)
