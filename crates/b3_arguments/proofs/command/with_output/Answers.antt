use Rattle.std.proofs.Common.{refl}
use Rattle.std.proofs.lemmas.Result.{IfOk-weaker}
use Rattle.b3_arguments.proofs.OptionLemmas.{added}
use Rattle.b3_arguments.proofs.command.with_output.Goals as goal

pub returns : goal.returns
returns c = IfOk-weaker c.arg-5.result _ _ (λ more adds. added adds refl c.tag.ensures
    (added c.in_ok-arg-4.ensures refl c.no_names.ensures
    (added c.in_ok-arg-3.ensures refl c.raw.ensures
    (added c.in_ok-arg-2.ensures refl c.seek.ensures
    (added c.in_ok-arg.ensures refl c.length.ensures
    (refl)))))) c.arg-5.ensures
