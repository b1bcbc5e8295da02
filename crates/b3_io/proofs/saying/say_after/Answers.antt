use Rattle.std.proofs.Common.{◌≡◌, ◌∙◌, ◌++◌, ℕ, List, [], Result, Ok, Err, ap, subst, inr, refl, inl, arith}
use Rattle.std.specs.Prelude.{IsErrAnd}
use Rattle.std.specs.Io.KnownBytes.{Appends}
use Rattle.std.proofs.lemmas.Grind.{common_steps}
use Rattle.std.proofs.lemmas.Result.{err_from_is_err_and}
use Rattle.b3_io.specs.declared.fault.RunFault.{RunFault}
use Rattle.b3_io.specs.declared.fault.RunFault.TheVariants.{WriteFault}
use Rattle.b3_io.specs.Owing.{SaysOwing, on_out}
use Rattle.b3_io.specs.Scripts.{Report, joined}
use Rattle.b3_io.specs.Sinks.{GainsBeginning}
use Rattle.b3_io.specs.Runs.{Broke, IoState, sink_failures}
use Rattle.b3_io.proofs.RunLemmas.{broke_at_once, broke_out, broke_err, not_asked}
use Rattle.b3_io.proofs.saying.say_after.Goals as goal

-- a sink failed, and the call hands it on
said_fault : {T : Type 0} {a b : IoState} (said : Report) (owed owing : List ℕ) (r : Result T RunFault)
    → IsErrAnd r (λ fault. fault ≡ WriteFault)
    → ((fault : RunFault) → fault ≡ WriteFault → Broke a b [] (joined (on_out owed) said) fault)
    → SaysOwing said a b owed owing r
said_fault said owed owing (Ok x) is broke = absurd is
said_fault said owed owing (Err fault) is broke = (broke fault is, inl is)

pub returns-then-may_wait : goal.returns-then-may_wait
returns-then-may_wait g c = grind (arith, common_steps)

pub returns-in_err-write_all : goal.returns-in_err-write_all
returns-in_err-write_all g c =
    let lines = c.in_ok-extend_from_slice.ensures.items
    ∙ ap (λ text. c.args.lines.now.items ++ text) c.as_slice.ensures.value in
    let text = subst (GainsBeginning (g.O.Sink.held c.args.out.now) (g.O.Sink.held c.write_all.new.sink))
    (c.as_slice-2.ensures.value ∙ lines) c.in_err-write_all.ensures.err in
    said_fault _ _ _ c.from_residual-in_err-write_all.result c.from_residual-in_err-write_all.ensures.1
    (λ fault is. broke_out _ _ _ _ (not_asked _ _ refl refl refl) text c.in_err-write_all.ensures.count refl is)

pub returns-in_err-write_all-2 : goal.returns-in_err-write_all-2
returns-in_err-write_all-2 g c =
    let lines = c.in_ok-extend_from_slice.ensures.items
    ∙ ap (λ text. c.args.lines.now.items ++ text) c.as_slice.ensures.value in
    let out = subst (Appends (g.O.Sink.held c.args.out.now) (g.O.Sink.held c.write_all.new.sink))
    (c.as_slice-2.ensures.value ∙ lines) c.in_ok-write_all.ensures.ok in
    let err = subst (GainsBeginning (g.E.Sink.held c.args.err.now) (g.E.Sink.held c.write_all-2.new.sink))
    c.as_slice-3.ensures.value c.in_err-write_all-2.ensures.err in
    said_fault _ _ _ c.from_residual-in_err-write_all-2.result c.from_residual-in_err-write_all-2.ensures.1
    (λ fault is. broke_err _ _ _ _ (not_asked _ _ refl refl refl)
    (record { bytes = out; count = omega (arith, c.in_ok-write_all.ensures.count) }) err
    c.in_err-write_all-2.ensures.count is)

pub returns-in_err-extend_from_slice : goal.returns-in_err-extend_from_slice
returns-in_err-extend_from_slice g c =
    let p = err_from_is_err_and c.from_residual.result c.from_residual.ensures.1 in
    rw p.1 (broke_at_once _ _ _ (ap sink_failures p.2), inr p.2)
