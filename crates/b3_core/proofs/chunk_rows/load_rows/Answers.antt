use Rattle.std.proofs.Common.{◌++◌, ◌∙◌}
use Rattle.b3_core.proofs.LaneChunks.{four_by_four-block}
use Rattle.b3_core.proofs.chunk_rows.load_rows.Goals as goal

pub returns-clause-words : goal.returns-clause-words
returns-clause-words c =
    (λ i. c.load4.ensures i ++ c.load4-2.ensures i ++ c.load4-3.ensures i ++ c.load4-4.ensures i)
    ∙ four_by_four-block c.args.bytes.now c.args.offset c.requires
