use Rattle.std.proofs.Common.{◌≡◌, ℕ, ◌+◌, ◌*◌, ◌<◌, [], ◌++◌, map, take, get_or, replicate, bit_or, refl, ◌∙◌, arith}
use Rattle.std.specs.List.{range_with_len}
use Rattle.std.specs.Simd.Lanes.{pick_l}
use Rattle.std.proofs.lemmas.Simd.{get_or-replicate}
use Rattle.b3_core.specs.Compression.{compress}
use Rattle.b3_core.proofs.LaneParents.{lane-picked_back, lane-picked_front}
use Rattle.b3_core.proofs.LaneWords.{wide-lengths}
use Rattle.b3_core.proofs.lane_trees.parents8.Goals as goal

pub returns-clause-front : goal.returns-clause-front
returns-clause-front c j lt =
    let left = c.args.left.now in
    let right = c.args.right.now in
    let wide = c.requires.left in
    let in_range : j < 8 = omega arith in
    let even = lane-picked_front (λ i. 2 * i) left right j wide in_range (omega arith) in
    let odd = lane-picked_front (λ i. 2 * i + 1) left right j wide in_range (omega arith) in
    let none : get_or (replicate 8 0) j 0 ≡ 0 = get_or-replicate 8 j 0 0 in_range in
    c.chainings8.ensures.lanes j 0 in_range none none
    ∙ (λ i. take 8 (compress (c.broadcast-h.ensures.lanes j in_range i) (even i ++ odd i) 0 64
    (bit_or c.args.mode.now.flag 4)))

pub returns-clause-back : goal.returns-clause-back
returns-clause-back c j lt =
    let left = c.args.left.now in
    let right = c.args.right.now in
    let wide = c.requires.left in
    let in_range : j + 4 < 8 = omega arith in
    let even = lane-picked_back (λ i. 2 * i) left right (j + 4) (2 * j) wide c.requires.right in_range (omega arith) in
    let odd = lane-picked_back (λ i. 2 * i + 1) left right (j + 4) (2 * j + 1) wide c.requires.right in_range
    (omega arith) in
    let none : get_or (replicate 8 0) (j + 4) 0 ≡ 0 = get_or-replicate 8 (j + 4) 0 0 in_range in
    c.chainings8.ensures.lanes (j + 4) 0 in_range none none
    ∙ (λ i. take 8 (compress (c.broadcast-h.ensures.lanes (j + 4) in_range i) (even i ++ odd i) 0 64
    (bit_or c.args.mode.now.flag 4)))

pub chainings8-requires-clause-message : goal.chainings8-requires-clause-message
chainings8-requires-clause-message c =
    let every_other = λ (f : ℕ → ℕ). map (λ i. pick_l 0 (get_or c.args.left.now i [] ++ get_or c.args.right.now i [])
    (map f (range_with_len 0 8))) (range_with_len 0 8) in
    wide-lengths 16 (every_other (λ i. 2 * i) ++ every_other (λ i. 2 * i + 1)) refl
