use Rattle.std.proofs.Common.{refl}
use Rattle.std.proofs.lemmas.Result.{err_from_is_err_and}
use Rattle.b3_io.proofs.RunLemmas.{broke_out, not_asked}
use Rattle.b3_devices.proofs.devices.Devices.write_lines.Goals as goal

pub returns-in_err-write_all-clause-said : goal.returns-in_err-write_all-clause-said
returns-in_err-write_all-clause-said g c =
    let p = err_from_is_err_and c.from_residual.result c.from_residual.ensures.1 in
    let said = c.in_err-write_all.ensures in
    rw p.1 (broke_out _ _ _ _ (not_asked _ _ refl refl refl) said.err said.count refl p.2, p.2)
