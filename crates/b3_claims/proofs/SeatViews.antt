-- A seat of its claims: what its view says of its fields, and its fields after a step.
use Rattle.std.proofs.Common.{◌≡◌, ℕ, ◌+◌, false, true≢false, List, ◌++◌, length, sym, ap, ◌∙◌, arith}
use Rattle.std.specs.Prelude.{Result, Ok, Err, IsOk, OnOk}
use Rattle.atomic_table.specs.Seated.{TableId}
use Rattle.atomic_table.specs.Table.{Me}
use Rattle.b3_claims.specs.declared.claim_rule.View.{View}
use Rattle.b3_claims.specs.Claiming.{joined, tried}
use Rattle.b3_claims.specs.ClaimRule.{IsSound, KeepsSeat}
use Rattle.b3_claims.specs.Seats.{ClaimsState, SeatState, IsSeatOf}

pub IsSeatOf-same : {x y : ClaimsState} {s t : SeatState} → x ≡ y → s ≡ t → IsSeatOf y t → IsSeatOf x s
IsSeatOf-same p q own = (
  ap (λ (u : SeatState). u.table) q ∙ own.0 ∙ sym (ap (λ (u : ClaimsState). u.table) p),
  ap (λ (u : SeatState). length u.view.seen) q ∙ own.1 ∙ sym (ap (λ (u : ClaimsState). u.count) p),
)

-- a seat whose table and number of indexes stay is a seat of the same claims
pub IsSeatOf-kept : {x y : ClaimsState} {s t : SeatState} → x ≡ y → s ≡ t → IsSeatOf y t → {table : TableId} {n : ℕ}
    → table ≡ s.table → n ≡ length s.view.seen → (table ≡ y.table) × (n ≡ y.count)
IsSeatOf-kept p q own same_table same_length = (
  same_table ∙ ap (λ (u : SeatState). u.table) q ∙ own.0,
  same_length ∙ ap (λ (u : SeatState). length u.view.seen) q ∙ own.1,
)

pub KeepsSeat-lost : (me : Me (Unit {0}) View) (i : ℕ) {parts : ℕ} {list : List ℕ} → KeepsSeat me parts list
    → KeepsSeat (tried me.0 i false, me.1) parts list
KeepsSeat-lost me i k =
    record { parts_are = k.parts_are; list_is = k.list_is; some = k.some; most = k.most; no_slot = k.no_slot }

pub KeepsSeat-joined : (me other : Me (Unit {0}) View) {parts their_parts : ℕ} {list their_list : List ℕ}
    → KeepsSeat me parts list → KeepsSeat other their_parts their_list → IsSound (joined me.0 other.0)
    → KeepsSeat (joined me.0 other.0, me.1) (parts + their_parts) (list ++ their_list)
KeepsSeat-joined me other k l sound = record {
  parts_are = λ i. k.parts_are i + l.parts_are i;
  list_is = λ i. k.list_is i ++ l.list_is i;
  some = omega (arith, k.some);
  most = omega (arith, sound.few, k.parts_are, l.parts_are);
  no_slot = k.no_slot;
}

-- what a call gives where it succeeds, once it does
pub use_OnOk : {T E : Type 0} (r : Result T E) (P : Type 0) → IsOk r → OnOk r P → P
use_OnOk (Ok x) P is p = p
use_OnOk (Err e) P is p = absurd (true≢false (sym is))
