use Rattle.std.proofs.Common.{◌≡◌, ℕ, [], ◌∷◌, ◌++◌, length, map, take, get_or, replicate, ap, sym, ◌∙◌}
use Rattle.std.specs.List.{range_with_len}
use Rattle.std.proofs.lemmas.Simd.{get_or-replicate}
use Rattle.b3_core.specs.Compression.{initial_value, rounds}
use Rattle.b3_core.specs.Lanes.{lane}
use Rattle.b3_core.proofs.Lists.{map-below}
use Rattle.b3_core.proofs.LaneWords.{lane-elements, wide-lengths}
use Rattle.b3_core.proofs.lanes.final_states8.Goals as goal

pub returns-clause-lanes : goal.returns-clause-lanes
returns-clause-lanes c j t lt low high =
    let chains = sym (lane-elements j 8 c.args.h.now c.requires.h.0) in
    let same : (n : ℕ) → get_or (replicate 8 n) j 0 ≡ n = λ n. get_or-replicate 8 j n 0 lt in
    c.rounds8.ensures.lanes j lt
    ∙ ap (λ v. rounds 7 v (lane j c.args.m.now)) (λ i. chains i
    ++ (same 0x6a09e667 i ∷ same 0xbb67ae85 i ∷ same 0x3c6ef372 i ∷ same 0xa54ff53a i ∷ [])
    ++ (low i ∷ high i ∷ same c.args.b i ∷ same c.args.d i ∷ []))

pub rounds8-requires-clause-wide : goal.rounds8-requires-clause-wide
rounds8-requires-clause-wide c =
    let h = c.args.h.now in
    wide-lengths 16 (map (λ k. get_or h k []) (range_with_len 0 8) ++ map (replicate 8) (take 4 initial_value)
    ++ (c.args.low ∷ c.args.high ∷ replicate 8 c.args.b ∷ replicate 8 c.args.d ∷ []))
    (λ i. map-below (λ k. length (get_or h k [])) (λ k. 8) 8 c.requires.h.1 i ++ replicate 4 8
    ++ (c.requires.low i ∷ c.requires.high i ∷ replicate 2 8))

pub rounds8-requires-clause-message : goal.rounds8-requires-clause-message
rounds8-requires-clause-message c = c.requires.message
