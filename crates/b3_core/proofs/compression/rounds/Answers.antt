use Rattle.b3_core.specs.Compression.{rounds}
use Rattle.b3_core.proofs.Rounds.{rounds-suc}
use Rattle.b3_core.proofs.compression.rounds.Goals as goal

pub returns-clause-words : goal.returns-clause-words
unfolding rounds
returns-clause-words c =
    rounds-suc 6 _ _ c.round-v.ensures.words c.permuted-m.ensures.words
    (rounds-suc 5 _ _ c.round-v-2.ensures.words c.permuted-m-2.ensures.words
    (rounds-suc 4 _ _ c.round-v-3.ensures.words c.permuted-m-3.ensures.words
    (rounds-suc 3 _ _ c.round-v-4.ensures.words c.permuted-m-4.ensures.words
    (rounds-suc 2 _ _ c.round-v-5.ensures.words c.permuted-m-5.ensures.words
    (rounds-suc 1 _ _ c.round-v-6.ensures.words c.permuted-m-6.ensures.words
    c.round.ensures.words)))))
