-- `blake3_hasher_init_derive_key_raw` meets its contract: a walk of its MIR, by hand. The new hasher is written into the room at the pointer.
use Rattle.b3_c.proofs.Steps.{[], ◌∷◌, ◌++◌, refl, proved, full_share, sep, id⊢, ftrue, flft, named, vunit, WpFn, fact, tables, sem, ‵, raw, ◌⊛◌, some, later, prop, ◌$◌, ◌∵◌, !, qed, done, move, keep, drop, use1, use2, split, join, feq_i, pick, show, await, regoal, suffices, frame, group, enter, of_opd, unit_lit, stop, no_more, and_then, returns, alloc_all, pass_all, free_all, look_at, get, through, sets, lands_as, assigns, init, u8, yes, Is, shows, Ptr, RawPtr, block_ptr, lies_at, room_at, in_a_block, rawptr_vals, rawptr_Tells, ShrSlice, shr_slice_vals, shr_slice_Tells, plain, nothing, heard, peeks, calls_at, lasts, triple_of, Stays, walk_of, says, stay_dropped, Goes-dropped, ends_at, framed, HasherRow, HasherState}
use denote.Builtin.{SliceRefOf}
use Rattle.b3_c.proofs.Pointers.{placed}
use Rattle.b3_c.specs.Calls.{IsNew}
use Rattle.b3_hash.specs.Derivation.{derived_mode}
use Rattle.b3_hash.proofs.hasher.Hasher.TheLaws.{the_row_laws}
use Rattle.b3_c.specs.contracts.blake3_hasher_init_derive_key_raw as f
use Rattle.b3_c.proofs.blake3_hasher_init_derive_key_raw.Statement.{statement}
use Rattle.b3_c.proofs.blake3_hasher_init_derive_key_raw.Code as code
use Rattle.b3_c.specs.contracts.calls.deriving_hasher as g
use Rattle.b3_c.proofs.calls.deriving_hasher.Met.{met}

abbrev stayed : Stays f.ended.signature.params f.ended.kept
stayed = (stay_dropped _ yes, (stay_dropped _ yes, tt))

pub blake3_hasher_init_derive_key_raw_spec : {M : Type 1} → statement M
blake3_hasher_init_derive_key_raw_spec 𝓤 𝓛 𝓜 𝓡 wired =
    let c = f.clauses 𝓛 𝓜.mem 𝓡.returns in let W = walk_of 𝓛 f.ended stayed c in let 𝓣 = tables 𝓤 𝓛.H 𝓜 𝓡 𝓡.env in
    proved 𝓛 f.ended stayed c 𝓜 𝓡 (Goes-dropped 𝓛 1 (plain (λ _. RawPtr)) yes (λ κs x w. refl), (Goes-dropped 𝓛 1 (SliceRefOf (0 ∷ []) tt (plain (λ _. u8)) (λ _. tt)) yes (λ κs x w. refl), tt))
    f.Key.name code.function (code.unfolded 𝓤 𝓛.H 𝓜 𝓡 wired)
    (λ κs. (rawptr_vals, (shr_slice_vals, tt))) (λ κs. (rawptr_Tells, (shr_slice_Tells (named 0) κs.0 u8, tt))) (λ κs qs bounds a _ are.
    let κ = κs.0 in let q = qs.0 in let given = a.1.0 in let vs = shr_slice_vals given in let R = HasherRow in
    let y : Ptr → W.Ghost = λ p. ((κs, qs, bounds, (p, (given, tt)), (rawptr_vals p, (vs, tt))), tt) in
    qed 𝓛 (((‵ (flft κ q) ⊛ ‵ ftrue) ⊛ ‵ (RawPtr.own_val a.0 (rawptr_vals a.0)) ⊛ ‵ ((ShrSlice (named 0) κ u8).own_val given vs) ⊛ ‵ ftrue) ∷ ‵ (room_at R a.0) ∷ []) ∵
    split ! $ split ! $ move ! (2 ∷ []) $ split ! $ move ! (1 ∷ []) $ split ! $ keep ! (5 ∷ 0 ∷ 3 ∷ []) $
    -- [the room; what is given; the token of κ]
    in_a_block ! a.0 (λ p. room_at R p) (id⊢ 𝓤 _) (λ b o e.
    regoal ! (λ p. prop (WpFn 𝓤 𝓛.H 𝓣.C 𝓣.Λ code.function (rawptr_vals p ++ vs ++ []) (W.post (y p)))) e refl $
    enter ! _ _ _ _ _ $ alloc_all ! (λ l. pass_all ! refl ((tt, tt), ((tt, (tt, (record { fits = are.1.0.0.1.0 }, tt))), tt)) $
    sets ! (of_opd ! (get ! refl)) refl (tt, tt) $
    let G = triple_of 𝓛 g.signature (g.spec 𝓛 𝓜.mem 𝓡.returns) in
    let z : G.Ghost = ((κs, qs, tt, (given, tt), (vs, tt)), tt) in
    nothing ! $ move ! (2 ∷ 0 ∷ []) $ join ! $ nothing ! $ move ! (3 ∷ 0 ∷ []) $ join ! $ join ! $
    nothing ! $ move ! (1 ∷ 0 ∷ []) $ use2 𝓛 (raw (G.pre z)) (id⊢ 𝓤 _) $
    calls_at ! (framed 𝓤 𝓛.H 𝓜 𝓣) G (met 𝓤 𝓛 𝓜 𝓡 (code.calls-b3_c::calls::deriving_hasher 𝓡.env wired)) z (and_then ! (get ! refl) (no_more !)) (λ v.
    use1 𝓛 (later (some (λ (t : HasherState). ((‵ (flft κ q) ⊛ ‵ ftrue) ⊛ ‵ (R.own_val t (v ∷ []))) ⊛
    some (λ (ws : Unit {0} × Unit {0}). ‵ (lasts g.ended z.0.0 z.0.3 ws) ⊛ raw (fact 𝓤 (IsNew (derived_mode given.now) t)))))) (id⊢ 𝓤 _) $
    await ! tt $ pick ! (λ t. split ! $ split ! $ move ! (2 ∷ []) $ pick ! (λ ws. split ! $ drop ! $ heard ! _ (λ is_new.
    -- [the token; the hasher's parts; the room]
    move ! (1 ∷ []) $
    peeks ! R (Is R) (shows 𝓛 R) t (v ∷ []) (λ is. let good = (((the_row_laws).lawful 𝓛).typed t (v ∷ []) is).0 in
    lands_as ! refl refl good $
    assigns ! (of_opd ! (get ! refl)) (through ! refl (stop !)) (init ! 2 refl good) $
    sets ! (of_opd ! (unit_lit !)) refl (tt, tt) $
    returns ! (look_at ! 0 refl) $ free_all ! refl $ keep ! (2 ∷ 0 ∷ 1 ∷ []) $
    use2 𝓛 (‵ (lies_at R full_share (block_ptr b o) t)) (placed 𝓛 t v b o) $ move ! (1 ∷ 0 ∷ []) $
    -- [the token; the hasher]
    suffices ! _ (ends_at 𝓛 f.ended stayed c (y (block_ptr b o)) vunit tt (tt, (tt, tt)) (tt, (tt, tt))) $
    feq_i ! _ (vunit ∷ []) _ refl $ nothing ! $ nothing ! $ join ! $ nothing ! $ join ! $ move ! (2 ∷ 0 ∷ 1 ∷ []) $ group ! 3 $ frame ! $
    show ! (λ (t : HasherState). sep 𝓤 (sem 𝓛 (lies_at R full_share (block_ptr b o) t)) (fact 𝓤 (IsNew (derived_mode given.now) t))) t $ says ! is_new $ done !))))))))
