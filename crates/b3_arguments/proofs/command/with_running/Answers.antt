use Rattle.std.proofs.Common.{refl}
use Rattle.std.proofs.lemmas.Result.{IfOk-weaker}
use Rattle.b3_arguments.proofs.OptionLemmas.{added}
use Rattle.b3_arguments.proofs.command.with_running.Goals as goal

pub returns : goal.returns
returns c = IfOk-weaker c.arg-4.result _ _ (λ more adds. added adds refl c.no_mmap.ensures
    (added c.in_ok-arg-3.ensures refl c.progress.ensures
    (added c.in_ok-arg-2.ensures refl c.num_threads.ensures
    (added c.in_ok-arg.ensures refl c.files0_from.ensures
    (refl))))) c.arg-4.ensures
