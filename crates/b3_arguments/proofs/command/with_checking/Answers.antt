use Rattle.std.proofs.Common.{refl}
use Rattle.std.proofs.lemmas.Result.{IfOk-weaker}
use Rattle.b3_arguments.proofs.OptionLemmas.{added}
use Rattle.b3_arguments.proofs.command.with_checking.Goals as goal

pub returns : goal.returns
returns c = IfOk-weaker c.arg-6.result _ _ (λ more adds. added adds refl c.warn.ensures
    (added c.in_ok-arg-5.ensures refl c.strict.ensures
    (added c.in_ok-arg-4.ensures refl c.status.ensures
    (added c.in_ok-arg-3.ensures refl c.ignore_missing.ensures
    (added c.in_ok-arg-2.ensures refl c.quiet.ensures
    (added c.in_ok-arg.ensures refl c.check.ensures
    (refl))))))) c.arg-6.ensures
