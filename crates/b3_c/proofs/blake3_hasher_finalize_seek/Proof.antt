-- `blake3_hasher_finalize_seek` meets its contract: a walk of its MIR, by hand. The hasher is lent, as a `&`, for a lifetime that is made for the call of `read`, and comes back once it is ended.
use Rattle.b3_c.proofs.Steps.{ℕ, List, [], ◌∷◌, ◌++◌, refl, ap, w64, proved, full_share, id⊢, ftrue, flft, named, vunit, vptr, WpFn, fact, tables, ‵, raw, ◌⊛◌, some, later, prop, ◌$◌, ◌∵◌, !, qed, done, move, keep, use1, use2, split, join, fsplit, fjoin, feq_i, feq_l, pick, await, regoal, suffices, frame, group, enter, of_opd, unit_lit, addr, stop, no_more, and_then, returns, alloc_all, pass_all, free_all, look_at, get, through, sets, lands_as, lft_end, lent_back, u8, u64, unit, yes, Ptr, RawPtr, block_ptr, lies_at, in_a_block, rawptr_vals, rawptr_Tells, MutSlice, mut_slice_vals, mut_slice_Tells, uint_vals, uint_Tells, plain, nothing, heard, owned, only, calls_at, lasts, triple_of, Stays, walk_of, says, stay_dropped, gave_slice, Goes-dropped, Goes-gave_slice, ends_at, framed, HasherRow}
use types.Part.{whole, sub, agg}
use types.Run.{fld, hop, from}
use types.ByLocal.{get_in, look_in_at}
use denote.Plain.{uint_Makes}
use Rattle.b3_c.specs.Calls.{IsOutput}
use Rattle.b3_c.proofs.Pointers.{lends_shared}
use Rattle.b3_c.specs.contracts.blake3_hasher_finalize_seek as f
use Rattle.b3_c.proofs.blake3_hasher_finalize_seek.Statement.{statement}
use Rattle.b3_c.proofs.blake3_hasher_finalize_seek.Code as code
use Rattle.b3_c.specs.contracts.calls.read_from as g
use Rattle.b3_c.proofs.calls.read_from.Met.{met}

abbrev stayed : Stays f.ended.signature.params f.ended.kept
stayed = (stay_dropped _ yes, (stay_dropped _ yes, (gave_slice (0 ∷ []) tt (plain (λ _. u8)), tt)))

pub blake3_hasher_finalize_seek_spec : {M : Type 1} → statement M
blake3_hasher_finalize_seek_spec 𝓤 𝓛 𝓜 𝓡 wired =
    let c = f.clauses 𝓛 𝓜.mem 𝓡.returns in let W = walk_of 𝓛 f.ended stayed c in let 𝓣 = tables 𝓤 𝓛.H 𝓜 𝓡 𝓡.env in
    proved 𝓛 f.ended stayed c 𝓜 𝓡 (Goes-dropped 𝓛 1 (plain (λ _. RawPtr)) yes (λ κs x w. refl), (Goes-dropped 𝓛 1 (plain (λ _. u64)) yes (λ κs x w. refl), (Goes-gave_slice 𝓛 1 0 tt (plain (λ _. u8)), tt)))
    f.Key.name code.function (code.unfolded 𝓤 𝓛.H 𝓜 𝓡 wired)
    (λ κs. (rawptr_vals, (uint_vals w64, (mut_slice_vals, tt)))) (λ κs. (rawptr_Tells, (uint_Tells w64, (mut_slice_Tells (named 0) κs.0 u8, tt)))) (λ κs qs bounds a s are.
    let κ = κs.0 in let q = qs.0 in let seek = a.1.0 in let out = a.1.1.0 in let vs = mut_slice_vals out in let R = HasherRow in
    let y : Ptr → W.Ghost = λ p. ((κs, qs, bounds, (p, (seek, (out, tt))), (rawptr_vals p, (uint_vals w64 seek, (vs, tt)))), s) in
    qed 𝓛 (((‵ (flft κ q) ⊛ ‵ ftrue) ⊛ ‵ (RawPtr.own_val a.0 (rawptr_vals a.0)) ⊛ ‵ (u64.own_val seek (uint_vals w64 seek)) ⊛ ‵ ((MutSlice (named 0) κ u8).own_val out vs) ⊛ ‵ ftrue) ∷ ‵ (lies_at R full_share a.0 s) ∷ []) ∵
    split ! $ split ! $ move ! (2 ∷ []) $ split ! $ move ! (1 ∷ []) $ split ! $ move ! (1 ∷ []) $ split ! $ keep ! (6 ∷ 0 ∷ 4 ∷ []) $
    -- [the hasher; the output's memory; the token of κ]
    in_a_block ! a.0 (λ p. lies_at R full_share p s) (id⊢ 𝓤 _) (λ b o e.
    regoal ! (λ p. prop (WpFn 𝓤 𝓛.H 𝓣.C 𝓣.Λ code.function (rawptr_vals p ++ uint_vals w64 seek ++ vs ++ []) (W.post (y p)))) e refl $
    enter ! _ _ _ _ _ $ alloc_all ! (λ l. pass_all ! refl ((tt, tt), ((tt, record { fits = are.1.0.1 }), ((tt, (tt, (record { fits = are.1.1.0.0.1.0 }, tt))), tt))) $
    sets ! (of_opd ! (get ! refl)) refl (tt, tt) $
    sets ! (addr ! (through ! refl (stop !))) refl (tt, tt) $
    sets ! (addr ! (from ! (fld ! refl (hop ! (look_in_at ! 3 (sub ! 0 refl (whole !))) (stop !))))) refl (tt, tt) $
    sets ! (agg ! (and_then ! (get ! refl) (and_then ! (get_in ! (fld ! refl (stop !)) (sub ! 1 refl (whole !))) (no_more !)))) refl (tt, (tt, (record { fits = are.1.1.0.0.1.0 }, tt))) $
    lends_shared ! tt s b o (λ α.
    -- [the loan; the lender's part; the token of α; the output's memory; the token of κ]
    let G = triple_of 𝓛 g.signature (g.spec 𝓛 𝓜.mem 𝓡.returns) in
    let z : G.Ghost = (((α ∷ [], (κ, tt)), (full_share, (q, tt)), tt, (record { ref_ptr = (b, o); now = s }, (seek, (out, tt))), (vptr b o ∷ [], (uint_vals w64 seek, (vs, tt)))), tt) in
    nothing ! $ move ! (4 ∷ 0 ∷ []) $ join ! $ owned ! u64 _ (uint_Makes 𝓛 w64) seek _ (refl, are.1.0.1) $ join ! $ move ! (1 ∷ 0 ∷ []) $ join ! $
    -- [the arguments; the lender's part; the token of α; the token of κ]
    nothing ! $ move ! (4 ∷ 0 ∷ []) $ join ! $ move ! (3 ∷ 0 ∷ []) $ join ! $ join ! $
    nothing ! $ move ! (1 ∷ 0 ∷ []) $ use2 𝓛 (raw (G.pre z)) (id⊢ 𝓤 _) $
    calls_at ! (framed 𝓤 𝓛.H 𝓜 𝓣) G (met 𝓤 𝓛 𝓜 𝓡 (code.calls-b3_c::calls::read_from 𝓡.env wired)) z
    (and_then ! (get ! refl) (and_then ! (get ! refl) (and_then ! (get ! refl) (no_more !)))) (λ v.
    use1 𝓛 (later (some (λ (u : Unit {0}). ((‵ (flft (α ∷ []) full_share) ⊛ ‵ (flft κ q) ⊛ ‵ ftrue) ⊛ ‵ (unit.own_val u (v ∷ []))) ⊛
    some (λ (ws : Unit {0} × (Unit {0} × (List ℕ × Unit {0}))). ‵ (lasts g.ended z.0.0 z.0.3 ws) ⊛ raw (fact 𝓤 (IsOutput s seek out.now ws.1.1.0)))))) (id⊢ 𝓤 _) $
    await ! tt $ pick ! (λ u. split ! $ split ! $ split ! $ lft_end ! tt $ move ! (2 ∷ []) $ feq_l ! (λ is_unit.
    lands_as ! (ap only is_unit) refl (tt, tt) $
    -- [α is over; the token of κ; the last values; the lender's part]
    move ! (2 ∷ []) $ pick ! (λ ws. split ! $ move ! (1 ∷ []) $ heard ! _ (λ told. fsplit ! $ move ! (1 ∷ []) $ fsplit ! $ move ! (1 ∷ []) $ fsplit ! $ fsplit ! $ fsplit ! $
    move ! (1 ∷ []) $ feq_l ! (λ same. fjoin ! $
    -- [the output's last value and its borrow; nothing; nothing; nothing; α is over; the token of κ; the lender's part]
    move ! (4 ∷ 6 ∷ []) $ lent_back ! tt $
    sets ! (of_opd ! (unit_lit !)) refl (tt, tt) $
    returns ! (look_at ! 0 refl) $ free_all ! refl $ keep ! (1 ∷ 5 ∷ 0 ∷ []) $
    suffices ! _ (ends_at 𝓛 f.ended stayed c (y (block_ptr b o)) vunit tt (tt, (tt, (ws.1.1.0, tt))) (tt, (tt, (same, tt)))) $
    -- [the output's last value and its borrow; the token of κ; the hasher]
    nothing ! $ move ! (1 ∷ 0 ∷ []) $ join ! $ nothing ! $ join ! $ nothing ! $ join ! $ feq_i ! _ (vunit ∷ []) _ refl $ move ! (2 ∷ 1 ∷ 0 ∷ []) $ group ! 3 $ frame ! $ says ! told $ done !))))))))))
