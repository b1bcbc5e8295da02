use Rattle.b3_core.specs.Compression.{rounds}
use Rattle.b3_core.proofs.Rounds.{rounds-suc}
use Rattle.b3_core.proofs.pair_rows.rounds.Goals as goal

pub returns-clause-words : goal.returns-clause-words
unfolding rounds
returns-clause-words c p p_in =
    rounds-suc 6 _ _ (c.round-v.ensures.words p p_in) (c.permuted-m.ensures.words p p_in)
    (rounds-suc 5 _ _ (c.round-v-2.ensures.words p p_in) (c.permuted-m-2.ensures.words p p_in)
    (rounds-suc 4 _ _ (c.round-v-3.ensures.words p p_in) (c.permuted-m-3.ensures.words p p_in)
    (rounds-suc 3 _ _ (c.round-v-4.ensures.words p p_in) (c.permuted-m-4.ensures.words p p_in)
    (rounds-suc 2 _ _ (c.round-v-5.ensures.words p p_in) (c.permuted-m-5.ensures.words p p_in)
    (rounds-suc 1 _ _ (c.round-v-6.ensures.words p p_in) (c.permuted-m-6.ensures.words p p_in)
    (c.round.ensures.words p p_in))))))
