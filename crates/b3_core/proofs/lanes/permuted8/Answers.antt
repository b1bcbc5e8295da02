use Rattle.std.proofs.Common.{◌≡◌, ℕ, T, ltb, [], ◌∷◌, length, map, get_or, lit<}
use Rattle.b3_core.specs.Compression.{permutation, permuted}
use Rattle.b3_core.proofs.LaneWords.{lane-places, wide-lengths}
use Rattle.b3_core.proofs.lanes.permuted8.Goals as goal

pub returns-clause-wide : goal.returns-clause-wide
returns-clause-wide c =
    let m = c.args.m.now in
    let at : (k : ℕ) → T (ltb k 16) → length (get_or m k []) ≡ 8 = λ k k_in. c.requires.wide.1 k (lit< k_in) in
    wide-lengths 16 (map (λ k. get_or m k []) permutation)
    (λ i. at 2 tt i ∷ at 6 tt i ∷ at 3 tt i ∷ at 10 tt i ∷ at 7 tt i ∷ at 0 tt i ∷ at 4 tt i ∷ at 13 tt i ∷ at 1 tt i
    ∷ at 11 tt i ∷ at 12 tt i ∷ at 5 tt i ∷ at 9 tt i ∷ at 14 tt i ∷ at 15 tt i ∷ at 8 tt i ∷ [])

pub returns-clause-lanes : goal.returns-clause-lanes
unfolding permuted
returns-clause-lanes c j = lane-places j c.args.m.now permutation
