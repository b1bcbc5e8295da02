use Rattle.b3_core.specs.Compression.{rounds}
use Rattle.b3_core.proofs.Rounds.{rounds-suc}
use Rattle.b3_core.proofs.lanes.rounds8.Goals as goal

pub returns-clause-lanes : goal.returns-clause-lanes
unfolding rounds
returns-clause-lanes c j lt =
    rounds-suc 6 _ _ (c.round8.ensures.lanes j lt) (c.permuted8-m.ensures.lanes j)
    (rounds-suc 5 _ _ (c.round8-2.ensures.lanes j lt) (c.permuted8-m-2.ensures.lanes j)
    (rounds-suc 4 _ _ (c.round8-3.ensures.lanes j lt) (c.permuted8-m-3.ensures.lanes j)
    (rounds-suc 3 _ _ (c.round8-4.ensures.lanes j lt) (c.permuted8-m-4.ensures.lanes j)
    (rounds-suc 2 _ _ (c.round8-5.ensures.lanes j lt) (c.permuted8-m-5.ensures.lanes j)
    (rounds-suc 1 _ _ (c.round8-6.ensures.lanes j lt) (c.permuted8-m-6.ensures.lanes j)
    (c.round8-7.ensures.lanes j lt))))))
