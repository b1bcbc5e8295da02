use Rattle.std.proofs.Common.{rules}
use Rattle.b3_core.specs.Chunks.{chaining_value_at}
use Rattle.b3_core.proofs.lane_chunks.chain_all_lanes.Goals as goal

pub returns-clause-lanes : goal.returns-clause-lanes
unfolding chaining_value_at
returns-clause-lanes c j j_in =
    c.lane_blocks.ensures.lanes j j_in (c.lane_offsets-offsets.ensures.lanes j j_in) (c.broadcast-key.ensures.lanes j j_in)

pub lane_blocks-requires-clause-low : goal.lane_blocks-requires-clause-low
lane_blocks-requires-clause-low c = search rules

pub lane_blocks-requires-clause-high : goal.lane_blocks-requires-clause-high
lane_blocks-requires-clause-high c = search rules
