use Rattle.std.proofs.Common.{◌≡◌, Some, refl, sym}
use Rattle.b3_io.specs.Operands.{operands_in}
use Rattle.b3_program.specs.Lists.{refusal_over}
use Rattle.b3_program.specs.Usages.{usage_text}
use Rattle.b3_call.proofs.lists.run_over.Goals as goal

pub returns-in-Some : goal.returns-in-Some
returns-in-Some g c =
    let is : refusal_over c.args.job.now (operands_in c.args.list.now c.args.content.now)
    ≡ Some (usage_text c.in-Some.usage) = sym c.in-Some.ensures in
    rw is (record {
      whole = c.refuse.ensures.said.whole;
      said = c.refuse.ensures.said.said;
      kept = refl;
      status_is = c.refuse.ensures.status;
    })
