use Rattle.b3_crew.proofs.CrewLemmas.{says_content, says_lacking}
use Rattle.b3_crew.proofs.name_hasher.NameHasher.finding_for.Goals as goal

pub returns-in-Some : goal.returns-in-Some
returns-in-Some g c = says_content c.in-Some.ensures

pub returns-in-Ok : goal.returns-in-Ok
returns-in-Ok g c =
    says_lacking c.in_ok-why.why (rw c.name.ensures at c.in_ok-why.ensures) c.in-Ok.ensures
