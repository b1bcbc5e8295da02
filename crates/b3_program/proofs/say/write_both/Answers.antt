use Rattle.std.proofs.lemmas.Result.{err_from_is_err_and, on_err_weaker}
use Rattle.b3_io.proofs.Gains.{Appends-append, GainsBeginning-append, GainsBeginning-longer}
use Rattle.b3_program.proofs.say.write_both.Goals as goal

pub returns-in_err-write_all-clause-err : goal.returns-in_err-write_all-clause-err
returns-in_err-write_all-clause-err g c =
    let p = err_from_is_err_and c.from_residual.result c.from_residual.ensures.1 in
    let part = rw c.as_bytes.ensures.value at c.in_err-write_all.ensures.err in
    rw p.1 (GainsBeginning-longer _ _ _ _ (GainsBeginning-longer _ _ _ _ part))

pub returns-in_err-write_all-2-clause-err : goal.returns-in_err-write_all-2-clause-err
returns-in_err-write_all-2-clause-err g c =
    let residual = c.from_residual-in_err-write_all-2 in
    let p = err_from_is_err_and residual.result residual.ensures.1 in
    let first = rw c.as_bytes.ensures.value at c.in_ok-write_all.ensures.ok in
    let part = rw c.as_bytes-2.ensures.value at c.in_err-write_all-2.ensures.err in
    rw p.1 (GainsBeginning-longer _ _ _ _ (GainsBeginning-append _ _ _ _ _ first part))

pub returns-clause-err : goal.returns-clause-err
returns-clause-err g c =
    let first = rw c.as_bytes.ensures.value at c.in_ok-write_all.ensures.ok in
    let second = rw c.as_bytes-2.ensures.value at c.in_ok-write_all-2.ensures.ok in
    on_err_weaker c.write_all-3.result
    (λ part. GainsBeginning-append _ _ _ _ _ (Appends-append _ _ _ _ _ first second) part)
    c.write_all-3.ensures.err
