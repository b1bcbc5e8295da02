-- `blake3_hasher_update` meets its contract: a walk of its MIR, by hand. The hasher is lent for a lifetime that is made for the call of `append`, and comes back once it is ended.
use Rattle.b3_c.proofs.Steps.{[], ◌∷◌, ◌++◌, refl, ap, proved, full_share, sep, id⊢, ftrue, flft, named, vunit, vptr, WpFn, fact, tables, sem, ‵, raw, ◌⊛◌, some, later, prop, ◌$◌, ◌∵◌, !, qed, done, move, keep, use1, use2, split, join, fsplit, feq_i, feq_l, pick, show, await, regoal, suffices, frame, group, enter, of_opd, unit_lit, addr, stop, no_more, and_then, returns, alloc_all, pass_all, free_all, look_at, get, through, sets, lands_as, lft_end, u8, unit, yes, Ptr, RawPtr, block_ptr, lies_at, in_a_block, rawptr_vals, rawptr_Tells, ShrSlice, shr_slice_vals, shr_slice_Tells, plain, nothing, heard, only, calls_at, lasts, triple_of, Stays, walk_of, says, stay_dropped, Goes-dropped, ends_at, framed, HasherRow, HasherState}
use denote.Builtin.{SliceRefOf}
use Rattle.b3_c.specs.Calls.{IsAppended}
use Rattle.b3_c.proofs.Pointers.{lends, comes_back}
use Rattle.b3_c.specs.contracts.blake3_hasher_update as f
use Rattle.b3_c.proofs.blake3_hasher_update.Statement.{statement}
use Rattle.b3_c.proofs.blake3_hasher_update.Code as code
use Rattle.b3_c.specs.contracts.calls.append as g
use Rattle.b3_c.proofs.calls.append.Met.{met}

abbrev stayed : Stays f.ended.signature.params f.ended.kept
stayed = (stay_dropped _ yes, (stay_dropped _ yes, tt))

pub blake3_hasher_update_spec : {M : Type 1} → statement M
blake3_hasher_update_spec 𝓤 𝓛 𝓜 𝓡 wired =
    let c = f.clauses 𝓛 𝓜.mem 𝓡.returns in let W = walk_of 𝓛 f.ended stayed c in let 𝓣 = tables 𝓤 𝓛.H 𝓜 𝓡 𝓡.env in
    proved 𝓛 f.ended stayed c 𝓜 𝓡 (Goes-dropped 𝓛 1 (plain (λ _. RawPtr)) yes (λ κs x w. refl), (Goes-dropped 𝓛 1 (SliceRefOf (0 ∷ []) tt (plain (λ _. u8)) (λ _. tt)) yes (λ κs x w. refl), tt))
    f.Key.name code.function (code.unfolded 𝓤 𝓛.H 𝓜 𝓡 wired)
    (λ κs. (rawptr_vals, (shr_slice_vals, tt))) (λ κs. (rawptr_Tells, (shr_slice_Tells (named 0) κs.0 u8, tt))) (λ κs qs bounds a s are.
    let κ = κs.0 in let q = qs.0 in let input = a.1.0 in let vs = shr_slice_vals input in let R = HasherRow in
    let y : Ptr → W.Ghost = λ p. ((κs, qs, bounds, (p, (input, tt)), (rawptr_vals p, (vs, tt))), s) in
    qed 𝓛 (((‵ (flft κ q) ⊛ ‵ ftrue) ⊛ ‵ (RawPtr.own_val a.0 (rawptr_vals a.0)) ⊛ ‵ ((ShrSlice (named 0) κ u8).own_val input vs) ⊛ ‵ ftrue) ∷ ‵ (lies_at R full_share a.0 s) ∷ []) ∵
    split ! $ split ! $ move ! (2 ∷ []) $ split ! $ move ! (1 ∷ []) $ split ! $ keep ! (5 ∷ 0 ∷ 3 ∷ []) $
    -- [the hasher; the slice; the token of κ]
    in_a_block ! a.0 (λ p. lies_at R full_share p s) (id⊢ 𝓤 _) (λ b o e.
    regoal ! (λ p. prop (WpFn 𝓤 𝓛.H 𝓣.C 𝓣.Λ code.function (rawptr_vals p ++ vs ++ []) (W.post (y p)))) e refl $
    enter ! _ _ _ _ _ $ alloc_all ! (λ l. pass_all ! refl ((tt, tt), ((tt, (tt, (record { fits = are.1.0.0.1.0 }, tt))), tt)) $
    sets ! (of_opd ! (get ! refl)) refl (tt, tt) $
    sets ! (addr ! (through ! refl (stop !))) refl (tt, tt) $
    lends ! tt s b o (λ α γ.
    -- [the loan; the lender's part; the token of α; the slice; the token of κ]
    let G = triple_of 𝓛 g.signature (g.spec 𝓛 𝓜.mem 𝓡.returns) in
    let z : G.Ghost = (((α ∷ [], (κ, tt)), (full_share, (q, tt)), tt, (record { ref_ptr = (b, o); ghost_name = γ; now = s }, (input, tt)), (vptr b o ∷ [], (vs, tt))), tt) in
    nothing ! $ move ! (4 ∷ 0 ∷ []) $ join ! $ move ! (1 ∷ 0 ∷ []) $ join ! $
    nothing ! $ move ! (4 ∷ 0 ∷ []) $ join ! $ move ! (3 ∷ 0 ∷ []) $ join ! $ join ! $
    nothing ! $ move ! (1 ∷ 0 ∷ []) $ use2 𝓛 (raw (G.pre z)) (id⊢ 𝓤 _) $
    calls_at ! (framed 𝓤 𝓛.H 𝓜 𝓣) G (met 𝓤 𝓛 𝓜 𝓡 (code.calls-b3_c::calls::append 𝓡.env wired)) z
    (and_then ! (get ! refl) (and_then ! (get ! refl) (no_more !))) (λ v.
    use1 𝓛 (later (some (λ (u : Unit {0}). ((‵ (flft (α ∷ []) full_share) ⊛ ‵ (flft κ q) ⊛ ‵ ftrue) ⊛ ‵ (unit.own_val u (v ∷ []))) ⊛
    some (λ (ws : HasherState × (Unit {0} × Unit {0})). ‵ (lasts g.ended z.0.0 z.0.3 ws) ⊛ raw (fact 𝓤 (IsAppended s input.now ws.0)))))) (id⊢ 𝓤 _) $
    await ! tt $ pick ! (λ u. split ! $ split ! $ split ! $ lft_end ! tt $ move ! (2 ∷ []) $ feq_l ! (λ is_unit.
    lands_as ! (ap only is_unit) refl (tt, tt) $
    -- [α is over; the token of κ; the last values; the lender's part]
    move ! (2 ∷ []) $ pick ! (λ ws. split ! $ move ! (1 ∷ []) $ heard ! _ (λ appended. fsplit ! $ fsplit ! $
    -- [the loan's last value; its borrow; nothing; α is over; the token of κ; the lender's part]
    move ! (3 ∷ 5 ∷ 0 ∷ []) $ comes_back ! tt α γ ws.0 b o $
    sets ! (of_opd ! (unit_lit !)) refl (tt, tt) $
    returns ! (look_at ! 0 refl) $ free_all ! refl $ keep ! (3 ∷ 0 ∷ []) $
    suffices ! _ (ends_at 𝓛 f.ended stayed c (y (block_ptr b o)) vunit tt (tt, (tt, tt)) (tt, (tt, tt))) $
    -- [the tokens; the hasher]
    feq_i ! _ (vunit ∷ []) _ refl $ nothing ! $ nothing ! $ join ! $ nothing ! $ join ! $ move ! (2 ∷ 0 ∷ 1 ∷ []) $ group ! 3 $ frame ! $
    show ! (λ (t : HasherState). sep 𝓤 (sem 𝓛 (lies_at R full_share (block_ptr b o) t)) (fact 𝓤 (IsAppended s input.now t))) ws.0 $ says ! appended $ done !)))))))))
