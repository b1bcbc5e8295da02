use Rattle.std.proofs.Common.{ℕ, ◌+◌, ◌⊎◌, ◌<◌, ◌≤◌, ◌∙◌, Result, Ok, Err, IsSome, length, sym, subst, inl, arith}
use Rattle.std.proofs.lemmas.Grind.{common_steps}
use Rattle.std.specs.Prelude.{IfErr, IsErrAnd}
use Rattle.b3_io.specs.Reading.{is_unread, IsFaultOfRest}
use Rattle.b3_io.specs.declared.fault.RunFault.{RunFault}
use Rattle.b3_io.specs.Scripts.Kind.{Listed}
use Rattle.b3_io.proofs.ReadLemmas.{read_endless, rest_where}
use Rattle.b3_io.proofs.lists.read_text.Goals as goal

-- what holds of the fault that is handed on
fault_has : {T E : Type 0} (r : Result T E) (Q P : E → Type 0) → IsErrAnd r Q → ((e : E) → Q e → P e)
    → IfErr r P
fault_has (Ok x) Q P is then = tt
fault_has (Err e) Q P is then = then e is

pub returns-in_err-count-clause-fault : goal.returns-in_err-count-clause-fault
returns-in_err-count-clause-fault g c =
    let limits = c.args.limits in
    let told = g.S.Shelf.told c.args.shelf.now in
    let left = g.S.Shelf.left c.args.shelf.now in
    let held = c.fills.invariant in
    let endless = read_endless held.read (λ is. c.in_err-count.ensures.endless (subst IsSome (sym held.told) is)) in
    fault_has c.from_residual.result _ (λ fault. IsFaultOfRest fault told limits Listed left) c.from_residual.ensures.1
    (λ fault is. subst (λ (fault : RunFault). IsFaultOfRest fault told limits Listed left)
    (sym (is ∙ c.in_err-count.ensures.fault))
    (rest_where told left (λ content. (limits.turns ≤ length content) ⊎ (limits.largest < length content))
    (λ is. inl (endless is))))

pub fills-preserved : goal.fills-preserved
fills-preserved g c = grind (arith, common_steps)

pub returns-then-count-len-clause-count : goal.returns-then-count-len-clause-count
returns-then-count-len-clause-count g c =
    c.in_ok-count.ensures.count ∙ (λ j. c.fills.invariant.count j + is_unread {T = ℕ} (Ok (c.in-Some.is j)))

pub returns-in_default-clause-count : goal.returns-in_default-clause-count
returns-in_default-clause-count g c =
    c.in_ok-count.ensures.count ∙ (λ j. c.fills.invariant.count j + is_unread {T = ℕ} (Ok (c.in_default.is j)))

pub returns-then-count-len-clause-told : goal.returns-then-count-len-clause-told
returns-then-count-len-clause-told g c = c.fill.ensures.told ∙ c.fills.invariant.told

pub returns-then-count-len-clause-still_sure : goal.returns-then-count-len-clause-still_sure
returns-then-count-len-clause-still_sure g c = c.fill.ensures.still_sure ∙ c.fills.invariant.still_sure

pub returns-in_err-extend_from_slice-clause-told : goal.returns-in_err-extend_from_slice-clause-told
returns-in_err-extend_from_slice-clause-told g c = c.fill.ensures.told ∙ c.fills.invariant.told

pub returns-in_err-extend_from_slice-clause-still_sure : goal.returns-in_err-extend_from_slice-clause-still_sure
returns-in_err-extend_from_slice-clause-still_sure g c = c.fill.ensures.still_sure ∙ c.fills.invariant.still_sure

pub returns-in_default-clause-told : goal.returns-in_default-clause-told
returns-in_default-clause-told g c = c.fill.ensures.told ∙ c.fills.invariant.told

pub returns-in_default-clause-still_sure : goal.returns-in_default-clause-still_sure
returns-in_default-clause-still_sure g c = c.fill.ensures.still_sure ∙ c.fills.invariant.still_sure

pub fills-smaller : goal.fills-smaller
fills-smaller g c =
    let filled = rw c.in-Some.is at c.in_ok-count.ensures.filled in
    filled.fewer
