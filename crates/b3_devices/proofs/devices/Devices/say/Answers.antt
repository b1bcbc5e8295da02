use Rattle.std.proofs.Common.{refl, arith}
use Rattle.std.proofs.lemmas.Result.{err_from_is_err_and}
use Rattle.b3_io.proofs.RunLemmas.{broke_err, broke_out, not_asked}
use Rattle.b3_devices.proofs.devices.Devices.say.Goals as goal

pub returns-in_err-write_all-clause-said : goal.returns-in_err-write_all-clause-said
returns-in_err-write_all-clause-said g c =
    let p = err_from_is_err_and c.from_residual.result c.from_residual.ensures.1 in
    let bytes = rw c.as_slice.ensures.value at c.in_err-write_all.ensures.err in
    rw p.1 (broke_out _ _ _ _ (not_asked _ _ refl refl refl) bytes c.in_err-write_all.ensures.count refl p.2, p.2)

pub returns-in_err-write_all-2-clause-said : goal.returns-in_err-write_all-2-clause-said
returns-in_err-write_all-2-clause-said g c =
    let p = err_from_is_err_and c.from_residual-in_err-write_all-2.result c.from_residual-in_err-write_all-2.ensures.1
    in
    let out = rw c.as_slice.ensures.value at c.in_ok-write_all.ensures.ok in
    let err = rw c.as_slice-2.ensures.value at c.in_err-write_all-2.ensures.err in
    rw p.1 (
      broke_err _ _ _ _ (not_asked _ _ refl refl refl)
          (record { bytes = out; count = omega (arith, c.in_ok-write_all.ensures.count) }) err
          c.in_err-write_all-2.ensures.count p.2,
      p.2,
    )
