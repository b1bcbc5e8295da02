-- The steps through a pointer to a hasher, which the walks share.
use Rattle.std.proofs.Common.{ℕ, List, [], ◌∷◌}
use seplogic.Ra.Ura.{Ura}
use base.Fraction.{full_share}
use base.Logic.{ent, sep}
use base.Fml.{fsep, fat, fdead, flft, flent, fres, Incl-refl}
use contract.BorrowLft.{⊑_static}
use mir.Syntax.{named}
use mir.Val.{Val, vptr}
use types.Logic.{Logic, sem}
use types.Kit.{Goal, Soaks, Item, Seq, Step, step, ‵, ◌⊛◌, some, later, ◌$◌, ◌∵◌, !, qed, done, move, use1, use2, use3, split}
use types.Kit.{pick, await, fjoin, fpack}
use types.SemTy.{Body}
use types.Tokens.{lft_new}
use denote.Lend.{lends_ref, ref_back, lends_shr}
use denote.Memory.{cell_at, lone, mem, part_at, part_of}
use denote.RawPtr.{block_ptr, lies_at}
use denote.Ref.{MutRef, ShrRef}
use Rattle.b3_hash.proofs.hasher.Hasher.TheLaws.{the_row_laws}
use Rattle.b3_hash.specs.contracts.Hasher.{the_row as HasherRow}
use Rattle.b3_hash.specs.Hashers.{HasherState}

-- a hasher whose machine value was written to memory lies there
pub placed : {M : Type 1} {𝓤 : Ura M} (𝓛 : Logic 𝓤) (t : HasherState) (v : Val) (b o : ℕ)
    → ent 𝓤 (sep 𝓤 (sem 𝓛 (fat full_share (lone HasherRow.mir) b o v)) (sem 𝓛 (HasherRow.own_val t (v ∷ []))))
    (sem 𝓛 (lies_at HasherRow full_share (block_ptr b o) t))
unfolding part_of
placed 𝓛 t v b o =
    qed 𝓛 (‵ (fat full_share (lone HasherRow.mir) b o v) ∷ ‵ (HasherRow.own_val t (v ∷ [])) ∷ []) ∵
    use1 𝓛 (‵ (cell_at full_share HasherRow.mir (v ∷ []) b o)) (𝓛.laws.at_raw full_share (lone HasherRow.mir) b o v) $
    fjoin ! $ fpack ! (List Val) (λ us. fsep (cell_at full_share HasherRow.mir us b o) (HasherRow.own_val t us)) (v ∷ []) $
    done !

module _ {M : Type 1} {𝓤 : Ura M} {𝓛 : Logic 𝓤} {K : Type 0} {Γ : List (Item 𝓤)} {G : Goal 𝓤 𝓛.H} where
  -- a hasher is lent as a `&mut`, for a lifetime α that is made for one call: the loan, the lender's part, and the
  -- token of α
  pub lends : K → Soaks G → (s : HasherState) (b o : ℕ)
      → ((α γ : ℕ) → Seq K 𝓛
      (‵ ((MutRef (named 0) (α ∷ []) HasherRow).own_val (record { ref_ptr = (b, o); ghost_name = γ; now = s }) (vptr b o ∷ []))
      ∷ ‵ (flent (α ∷ []) (Body (mem HasherRow) b o γ)) ∷ ‵ (flft (α ∷ []) full_share) ∷ Γ) G)
      → Seq K 𝓛 (‵ (lies_at HasherRow full_share (block_ptr b o) s) ∷ Γ) G
  lends t z s b o k =
      lft_new t z (λ α. move t (1 ∷ []) $
      use1 𝓛 (later (some (λ (γ : ℕ).
      ‵ ((MutRef (named 0) (α ∷ []) HasherRow).own_val (record { ref_ptr = (b, o); ghost_name = γ; now = s }) (vptr b o ∷ []))
      ⊛ ‵ (flent (α ∷ []) (Body (mem HasherRow) b o γ)))))
      (lends_ref 𝓛 HasherRow (named 0) (α ∷ []) s b o) $ await t z $ pick t (λ γ. split t $ k α γ))

  -- once α is over, it lies there again, at the loan's last value
  pub comes_back : K → Soaks G → (α γ : ℕ) (s : HasherState) (b o : ℕ)
      → Step K 𝓛 (‵ (lies_at HasherRow full_share (block_ptr b o) s) ∷ Γ) G
      (‵ (fdead (α ∷ [])) ∷ ‵ (flent (α ∷ []) (Body (mem HasherRow) b o γ)) ∷ ‵ (fres γ (HasherRow.coded.code s)) ∷ Γ) G
  comes_back t z α γ s b o = step (λ rest.
      use3 𝓛 (later (‵ (lies_at HasherRow full_share (block_ptr b o) s))) (ref_back 𝓛 HasherRow (α ∷ []) γ s b o) $
      await t z $ rest)

  -- a hasher is lent as a `&`, likewise; `lent_back` gives it back
  pub lends_shared : K → Soaks G → (s : HasherState) (b o : ℕ)
      → ((α : ℕ) → Seq K 𝓛
      (‵ ((ShrRef (named 0) (α ∷ []) HasherRow).own_val (record { ref_ptr = (b, o); now = s }) (vptr b o ∷ []))
      ∷ ‵ (flent (α ∷ []) (part_at HasherRow full_share s b o)) ∷ ‵ (flft (α ∷ []) full_share) ∷ Γ) G)
      → Seq K 𝓛 (‵ (lies_at HasherRow full_share (block_ptr b o) s) ∷ Γ) G
  lends_shared t z s b o k =
      lft_new t z (λ α. move t (1 ∷ 0 ∷ []) $
      use2 𝓛 (later ((‵ ((ShrRef (named 0) (α ∷ []) HasherRow).own_val (record { ref_ptr = (b, o); now = s }) (vptr b o ∷ []))
      ⊛ ‵ (flent (α ∷ []) (part_at HasherRow full_share s b o))) ⊛ ‵ (flft (α ∷ []) full_share)))
      (lends_shr 𝓛 HasherRow (named 0) (α ∷ []) full_share s b o HasherRow.lives ((the_row_laws).shares 𝓛 s)
      ((α ∷ [], full_share) ∷ []) (⊑_static _) (Incl-refl (α ∷ []))) $ await t z $ split t $ split t $ k α)
