-- Parents on lanes: sixteen chaining values, of which every other one is taken.
use Rattle.std.proofs.Common.{◌≡◌, ℕ, ◌+◌, ◌<◌, List, [], ◌++◌, map, get_or, sym, ap, ◌∙◌, arith}
use Rattle.std.specs.List.{range_with_len}
use Rattle.std.specs.Simd.Lanes.{pick_l}
use Rattle.std.proofs.lemmas.List.{get_or-map, get_or_append_left, get_or-append_right}
use Rattle.std.proofs.lemmas.List.FromFn.{get_or-map-range_with_len, length-map-range_with_len}
use Rattle.b3_core.specs.Lanes.{AreVectors, lane}
use Rattle.b3_core.proofs.Lists.{map-below}
use Rattle.b3_core.proofs.LaneWords.{lane-elements}

-- place j of a vector that takes place f j of two vectors
picked : (f : ℕ → ℕ) (xs : List ℕ) (j : ℕ) → j < 8
    → get_or (pick_l 0 xs (map f (range_with_len 0 8))) j 0 ≡ get_or xs (f j) 0
picked f xs j lt =
    get_or-map (λ k. get_or xs k 0) (map f (range_with_len 0 8)) j 0 0 (omega (arith, length-map-range_with_len f 0 8))
    ∙ ap (λ k. get_or xs k 0) (get_or-map-range_with_len f 0 8 j j 0 lt (omega arith))

-- a lane of such vectors, where it is taken from the first of the two
pub lane-picked_front : (f : ℕ → ℕ) (left right : List (List ℕ)) (j : ℕ) → AreVectors 8 left → j < 8 → f j < 8
    → map (λ i. get_or (pick_l 0 (get_or left i [] ++ get_or right i []) (map f (range_with_len 0 8))) j 0)
    (range_with_len 0 8)
    ≡ lane (f j) left
lane-picked_front f left right j wide lt low =
    map-below (λ i. get_or (pick_l 0 (get_or left i [] ++ get_or right i []) (map f (range_with_len 0 8))) j 0)
    (λ i. get_or (get_or left i []) (f j) 0) 8
    (λ i i_in. picked f (get_or left i [] ++ get_or right i []) j lt
    ∙ get_or_append_left (get_or left i []) (get_or right i []) 0 (f j) (omega (arith, wide.1 i i_in)))
    ∙ sym (lane-elements (f j) 8 left wide.0)

-- and where it is taken from the second
pub lane-picked_back : (f : ℕ → ℕ) (left right : List (List ℕ)) (j k : ℕ) → AreVectors 8 left
    → AreVectors 8 right → j < 8
    → f j ≡ 8 + k
    → map (λ i. get_or (pick_l 0 (get_or left i [] ++ get_or right i []) (map f (range_with_len 0 8))) j 0)
    (range_with_len 0 8)
    ≡ lane k right
lane-picked_back f left right j k wide wide_right lt high =
    map-below (λ i. get_or (pick_l 0 (get_or left i [] ++ get_or right i []) (map f (range_with_len 0 8))) j 0)
    (λ i. get_or (get_or right i []) k 0) 8
    (λ i i_in. picked f (get_or left i [] ++ get_or right i []) j lt
    ∙ ap (λ n. get_or (get_or left i [] ++ get_or right i []) n 0) high
    ∙ get_or-append_right (get_or left i []) (get_or right i []) 8 (8 + k) 0 (wide.1 i i_in) (omega arith)
    ∙ ap (λ n. get_or (get_or right i []) n 0) (omega arith))
    ∙ sym (lane-elements k 8 right wide_right.0)
