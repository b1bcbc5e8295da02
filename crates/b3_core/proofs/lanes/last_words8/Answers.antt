use Rattle.std.proofs.Common.{◌+◌, [], get_or, bit_xor, arith}
use Rattle.std.specs.Simd.Lanes.{zip2}
use Rattle.b3_core.specs.Lanes.{lane}
use Rattle.b3_core.proofs.Lists.{map-below}
use Rattle.b3_core.proofs.LaneWords.{lane-zip2, length-zipped, wide-map}
use Rattle.b3_core.proofs.lanes.last_words8.Goals as goal

pub returns-clause-wide : goal.returns-clause-wide
returns-clause-wide c =
    let v = c.args.v.now in
    let h = c.args.h.now in
    wide-map (λ i. zip2 bit_xor (get_or v (i + 8) []) (get_or h i [])) 8
    (λ i lt. length-zipped bit_xor 16 8 v h (i + 8) i c.requires.wide c.requires.h (omega arith) lt)

pub returns-clause-lanes : goal.returns-clause-lanes
returns-clause-lanes c j lt =
    let v = c.args.v.now in
    let h = c.args.h.now in
    map-below (λ i. get_or (zip2 bit_xor (get_or v (i + 8) []) (get_or h i [])) j 0)
    (λ i. bit_xor (get_or (lane j v) (i + 8) 0) (get_or (lane j h) i 0)) 8
    (λ i i_in. lane-zip2 bit_xor 16 8 v h (i + 8) i j c.requires.wide c.requires.h (omega arith) i_in lt)
