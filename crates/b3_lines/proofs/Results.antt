-- What a call that grows a list says where it succeeds.
use Rattle.std.proofs.Common.{◌≡◌, ℕ, List, Result, Ok, Err, ◌∙◌}
use Rattle.std.specs.Prelude.{IfOk, OnOk, is_ok, if◌then◌else◌}

-- where the call succeeds, the list is what was wanted
pub OnOk-grown : {E : Type 0} (result : Result Unit E) (after grown before want : List ℕ)
    → after ≡ (if is_ok result then grown else before) → grown ≡ want → OnOk result (after ≡ want)
OnOk-grown (Ok _) after grown before want ensured same = ensured ∙ same
OnOk-grown (Err _) after grown before want ensured same = tt

-- two facts on the value of an `Ok`, joined
pub IfOk-joined : {T E : Type 0} (result : Result T E) (P Q R : T → Type 0) → ((x : T) → P x → Q x → R x)
    → IfOk result P → IfOk result Q → IfOk result R
IfOk-joined (Ok x) P Q R join p q = join x p q
IfOk-joined (Err _) P Q R join p q = tt
