use Rattle.std.proofs.Common.{ℕ, ◌+◌, ◌<◌, [], ◌∙◌, arith}
use Rattle.std.proofs.lemmas.List.{get_or-set_other, get_or-set_same}
use Rattle.b3_core.specs.Chunks.{chaining_value_at, chunk_at}
use Rattle.b3_core.proofs.LaneChunks.{after_blocks-chaining_value_at}
use Rattle.b3_core.proofs.lane_chunks.chain_lanes_beside.Goals as goal

pub returns-clause-chunks : goal.returns-clause-chunks
unfolding chaining_value_at
returns-clause-chunks c j j_in =
    let lt : j < 8 = omega (arith, c.requires.room) in
    get_or-set_other c.all_lanes-lists.result c.args.n j c.lane_words-beside.result [] (λ is. omega (arith, is))
    ∙ c.all_lanes-lists.ensures j lt
    ∙ c.some_lane_blocks-all.ensures.lanes j lt (c.lane_offsets-alone.ensures.lanes j j_in)
    (c.some_lane_blocks-h.ensures.lanes j lt (c.lane_offsets-together.ensures.lanes j (omega arith))
    (c.broadcast-key.ensures.lanes j lt))

pub returns-clause-beside : goal.returns-clause-beside
unfolding chaining_value_at
returns-clause-beside c =
    let n : ℕ = c.args.n in
    get_or-set_same c.all_lanes-lists.result n c.lane_words-beside.result [] (omega (arith, c.requires.room))
    ∙ c.lane_words-beside.ensures
    ∙ c.some_lane_blocks-h.ensures.lanes n c.requires.room (c.lane_offsets-together.ensures.lanes n (omega arith))
    (c.broadcast-key.ensures.lanes n c.requires.room)
    ∙ after_blocks-chaining_value_at c.args.mode.now (c.args.first + n) (chunk_at c.args.bytes.now n) c.args.blocks
    (λ is. omega (arith, is))
