use Rattle.std.proofs.Common.{◌∙◌}
use Rattle.b3_core.proofs.batch.chain8.Goals as goal

pub returns : goal.returns
returns c j lt = c.all_lanes.ensures j lt ∙ c.chain_all_lanes-h.ensures.lanes j lt
