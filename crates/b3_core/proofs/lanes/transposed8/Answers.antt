use Rattle.std.proofs.Common.{◌≡◌, ◌<◌, ℕ, List, [], ◌∷◌, ◌++◌, map, get_or, refl, sym, ◌∙◌, arith}
use Rattle.std.specs.List.{range_with_len}
use Rattle.std.specs.Simd.Lanes.{pick_l}
use Rattle.b3_core.proofs.Lists.{below_eight, elements}
use Rattle.b3_core.proofs.LaneChunks.{exchanged}
use Rattle.b3_core.proofs.LaneWords.{lane-elements, wide-lengths}
use Rattle.b3_core.proofs.lanes.transposed8.Goals as goal

-- the front or the back halves of two rows, joined
abbrev fronts : List (List ℕ) → List (List ℕ) → ℕ → List ℕ
fronts b c i = pick_l 0 (get_or b i [] ++ get_or c i []) (0 ∷ 1 ∷ 2 ∷ 3 ∷ 8 ∷ 9 ∷ 10 ∷ 11 ∷ [])

abbrev backs : List (List ℕ) → List (List ℕ) → ℕ → List ℕ
backs b c i = pick_l 0 (get_or b i [] ++ get_or c i []) (4 ∷ 5 ∷ 6 ∷ 7 ∷ 12 ∷ 13 ∷ 14 ∷ 15 ∷ [])

abbrev turned : List (List ℕ) → List (List ℕ) → List (List ℕ)
turned b c =
    fronts b c 0 ∷ fronts b c 1 ∷ fronts b c 2 ∷ fronts b c 3
    ∷ backs b c 0 ∷ backs b c 1 ∷ backs b c 2 ∷ backs b c 3 ∷ []

-- row i of a table of words
abbrev row : (ℕ → ℕ → ℕ) → ℕ → List ℕ
row at i = map (at i) (range_with_len 0 8)

-- column j is row j of what is turned
turned-columns : (at : ℕ → ℕ → ℕ) (j : ℕ) → j < 8
    → get_or (turned (exchanged (row at 0) (row at 1) (row at 2) (row at 3))
    (exchanged (row at 4) (row at 5) (row at 6) (row at 7))) j [] ≡ map (λ i. at i j) (range_with_len 0 8)
turned-columns at =
    below_eight (λ j. get_or (turned (exchanged (row at 0) (row at 1) (row at 2) (row at 3))
    (exchanged (row at 4) (row at 5) (row at 6) (row at 7))) j [] ≡ map (λ i. at i j) (range_with_len 0 8))
    refl refl refl refl refl refl refl refl

pub returns-clause-wide : goal.returns-clause-wide
returns-clause-wide c =
    let v = λ (i : ℕ). get_or c.args.v.now i [] in
    wide-lengths 8 (turned (exchanged (v 0) (v 1) (v 2) (v 3)) (exchanged (v 4) (v 5) (v 6) (v 7))) refl

pub returns-clause-lanes : goal.returns-clause-lanes
returns-clause-lanes c j lt =
    let v = c.args.v.now in
    let words : (i : ℕ) → i < 8 → get_or v i [] ≡ row (λ i k. get_or (get_or v i []) k 0) i =
    λ i i_in. elements (get_or v i []) 8 (c.requires.1 i i_in) in
    (λ k. get_or (turned
    (exchanged (words 0 (omega arith) k) (words 1 (omega arith) k) (words 2 (omega arith) k) (words 3 (omega arith) k))
    (exchanged (words 4 (omega arith) k) (words 5 (omega arith) k) (words 6 (omega arith) k) (words 7 (omega arith) k)))
    j [])
    ∙ turned-columns (λ i k. get_or (get_or v i []) k 0) j lt
    ∙ sym (lane-elements j 8 v c.requires.0)
