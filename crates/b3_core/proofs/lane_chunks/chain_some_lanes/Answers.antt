use Rattle.std.proofs.Common.{◌<◌, arith}
use Rattle.b3_core.specs.Chunks.{chaining_value_at}
use Rattle.b3_core.proofs.lane_chunks.chain_some_lanes.Goals as goal

pub returns-clause-lanes : goal.returns-clause-lanes
unfolding chaining_value_at
returns-clause-lanes c j j_in =
    let lt : j < 8 = omega (arith, c.requires.room) in
    c.some_lane_blocks.ensures.lanes j lt (c.lane_offsets-offsets.ensures.lanes j j_in) (c.broadcast-key.ensures.lanes j lt)
