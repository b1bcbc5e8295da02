use Rattle.std.proofs.Common.{take, ap, ◌∙◌}
use Rattle.b3_core.specs.Compression.{compress, output_words}
use Rattle.b3_core.specs.Lanes.{lane}
use Rattle.b3_core.proofs.lanes.chainings8.Goals as goal

pub returns-clause-lanes : goal.returns-clause-lanes
unfolding compress
returns-clause-lanes c j t lt low high =
    let h = lane j c.args.h.now in
    c.first_words8.ensures.lanes j h lt ∙ ap (λ v. take 8 (output_words v h))
    (c.final_states8.ensures.lanes j t lt low high)
