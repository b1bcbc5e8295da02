use Rattle.std.proofs.Common.{◌+◌, [], get_or, bit_xor, arith}
use Rattle.std.specs.Simd.Lanes.{zip2}
use Rattle.b3_core.specs.Lanes.{lane}
use Rattle.b3_core.proofs.Lists.{map-below}
use Rattle.b3_core.proofs.LaneWords.{lane-zip2, length-zipped, wide-map}
use Rattle.b3_core.proofs.lanes.first_words8.Goals as goal

pub returns-clause-wide : goal.returns-clause-wide
returns-clause-wide c =
    let v = c.args.v.now in
    wide-map (λ i. zip2 bit_xor (get_or v i []) (get_or v (i + 8) [])) 8
    (λ i lt. length-zipped bit_xor 16 16 v v i (i + 8) c.requires.wide c.requires.wide (omega arith) (omega arith))

pub returns-clause-lanes : goal.returns-clause-lanes
returns-clause-lanes c j h lt =
    let v = c.args.v.now in
    map-below (λ i. get_or (zip2 bit_xor (get_or v i []) (get_or v (i + 8) [])) j 0)
    (λ i. bit_xor (get_or (lane j v) i 0) (get_or (lane j v) (i + 8) 0)) 8
    (λ i i_in. lane-zip2 bit_xor 16 16 v v i (i + 8) j c.requires.wide c.requires.wide (omega arith) (omega arith) lt)
