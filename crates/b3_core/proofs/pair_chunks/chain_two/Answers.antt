use Rattle.std.proofs.Common.{◌∙◌}
use Rattle.b3_core.specs.Chunks.{chaining_value_at}
use Rattle.b3_core.proofs.pair_chunks.chain_two.Goals as goal

pub returns : goal.returns
unfolding chaining_value_at
returns c j j_in = c.both_words.ensures j j_in ∙ c.two_blocks.ensures.words j j_in (c.key_rows.ensures.words j j_in)
