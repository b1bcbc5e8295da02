use Rattle.std.proofs.Common.{get_or, replicate, refl, ◌∙◌, sym}
use Rattle.std.proofs.lemmas.Simd.{get_or-replicate}
use Rattle.b3_core.proofs.Lists.{elements, map-below}
use Rattle.b3_core.proofs.LaneWords.{wide-map}
use Rattle.b3_core.proofs.broadcast.broadcast_message.Goals as goal

pub returns-clause-lanes : goal.returns-clause-lanes
returns-clause-lanes c j lt =
    let m = c.args.m.now in
    map-below (λ i. get_or (replicate 8 (get_or m i 0)) j 0) (λ i. get_or m i 0) 16
    (λ i i_in. get_or-replicate 8 j (get_or m i 0) 0 lt)
    ∙ sym (elements m 16 c.told-m)

pub returns-clause-wide : goal.returns-clause-wide
returns-clause-wide c = wide-map (λ i. replicate 8 (get_or c.args.m.now i 0)) 16 (λ i lt. refl)
