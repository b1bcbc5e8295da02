use Rattle.std.proofs.Common.{refl}
use Rattle.std.proofs.lemmas.Result.{IfOk-weaker}
use Rattle.b3_arguments.proofs.OptionLemmas.{added}
use Rattle.b3_arguments.proofs.command.with_hashing.Goals as goal

pub returns : goal.returns
returns c = IfOk-weaker c.arg-2.result _ _ (λ more adds. added adds refl c.derive_key.ensures
    (added c.in_ok-arg.ensures refl c.keyed.ensures
    (refl))) c.arg-2.ensures
