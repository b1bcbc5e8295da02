use Rattle.std.proofs.Common.{◌≡◌, ℕ, ◌+◌, ◌*◌, ◌<◌, List, [], ◌++◌, length, get_or, replicate, map, take, drop, sym}
use Rattle.std.proofs.Common.{◌∙◌, arith}
use Rattle.std.specs.List.{range_with_len}
use Rattle.b3_core.specs.Words.{word_at}
use Rattle.b3_core.specs.Lanes.{AreVectors, lane, word_at_offset}
use Rattle.b3_core.proofs.Lists.{map-below}
use Rattle.b3_core.proofs.LaneWords.{lane-elements, wide-lengths}
use Rattle.b3_core.proofs.LaneChunks.{word_at_offset-block, words_of-block}
use Rattle.b3_core.proofs.lane_chunks.load16_transposed.Goals as goal

pub returns-clause-lanes : goal.returns-clause-lanes
returns-clause-lanes c j lt =
    let bytes = c.args.bytes.now in
    let place : ℕ = get_or c.args.offsets.now j 0 in
    let start : ℕ = place + c.args.offset in
    let block = take 64 (drop start bytes) in
    let row : (rows : List (List ℕ)) (offset n : ℕ) → AreVectors 4 rows → offset ≡ c.args.offset + 4 * n → n + 4 < 17
    → lane j rows ≡ map (λ i. word_at_offset bytes (place + offset + 4 * i)) (range_with_len 0 4)
    → map (λ i. get_or (get_or rows i []) j 0) (range_with_len 0 4)
    ≡ map (λ i. word_at block (n + i)) (range_with_len 0 4) =
    λ rows offset n wide offset_is n_in is. sym (lane-elements j 4 rows wide.0) ∙ is
    ∙ map-below (λ i. word_at_offset bytes (place + offset + 4 * i)) (λ i. word_at block (n + i)) 4
    (λ i i_in. word_at_offset-block bytes start (place + offset + 4 * i) (n + i) (omega arith) (omega arith)) in
    let a = row c.load4_transposed-a.result c.args.offset 0 c.load4_transposed-a.ensures.wide
    (omega arith) (omega arith)
    (c.load4_transposed-a.ensures.lanes j lt) in
    let b = row c.load4_transposed-b.result (c.args.offset + 16) 4 c.load4_transposed-b.ensures.wide
    (omega arith) (omega arith)
    (c.load4_transposed-b.ensures.lanes j lt) in
    let d = row c.load4_transposed-c.result (c.args.offset + 32) 8 c.load4_transposed-c.ensures.wide
    (omega arith) (omega arith)
    (c.load4_transposed-c.ensures.lanes j lt) in
    let e = row c.load4_transposed-d.result (c.args.offset + 48) 12 c.load4_transposed-d.ensures.wide
    (omega arith) (omega arith)
    (c.load4_transposed-d.ensures.lanes j lt) in
    (λ i. a i ++ b i ++ d i ++ e i) ∙ sym (words_of-block bytes start (omega (arith, c.requires j lt)))

pub returns-clause-wide : goal.returns-clause-wide
returns-clause-wide c =
    let rows = λ (v : List (List ℕ)). map (λ i. get_or v i []) (range_with_len 0 4) in
    let four : (v : List (List ℕ)) → AreVectors 4 v → map length (rows v) ≡ replicate 4 8 =
    λ v wide. map-below (λ i. length (get_or v i [])) (λ i. 8) 4 wide.1 in
    let a = c.load4_transposed-a in
    let b = c.load4_transposed-b in
    let d = c.load4_transposed-c in
    let e = c.load4_transposed-d in
    wide-lengths 16 (rows a.result ++ rows b.result ++ rows d.result ++ rows e.result)
    (λ i. four a.result a.ensures.wide i ++ four b.result b.ensures.wide i ++ four d.result d.ensures.wide i
    ++ four e.result e.ensures.wide i)
