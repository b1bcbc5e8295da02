use Rattle.b3_core.specs.Compression.{rounds}
use Rattle.b3_core.proofs.Rounds.{rounds-suc}
use Rattle.b3_core.proofs.pair_rows.rounds_by_turns.Goals as goal

pub returns-clause-first : goal.returns-clause-first
unfolding rounds
returns-clause-first c p p_in =
    rounds-suc 6 _ _ (c.round-v.ensures.words p p_in) (c.permuted-m.ensures.words p p_in)
    (rounds-suc 5 _ _ (c.round-v-2.ensures.words p p_in) (c.permuted-m-2.ensures.words p p_in)
    (rounds-suc 4 _ _ (c.round-v-3.ensures.words p p_in) (c.permuted-m-3.ensures.words p p_in)
    (rounds-suc 3 _ _ (c.round-v-4.ensures.words p p_in) (c.permuted-m-4.ensures.words p p_in)
    (rounds-suc 2 _ _ (c.round-v-5.ensures.words p p_in) (c.permuted-m-5.ensures.words p p_in)
    (rounds-suc 1 _ _ (c.round-v-6.ensures.words p p_in) (c.permuted-m-6.ensures.words p p_in)
    (c.round.ensures.words p p_in))))))

pub returns-clause-second : goal.returns-clause-second
unfolding rounds
returns-clause-second c p p_in =
    rounds-suc 6 _ _ (c.round-w.ensures.words p p_in) (c.permuted-n.ensures.words p p_in)
    (rounds-suc 5 _ _ (c.round-w-2.ensures.words p p_in) (c.permuted-n-2.ensures.words p p_in)
    (rounds-suc 4 _ _ (c.round-w-3.ensures.words p p_in) (c.permuted-n-3.ensures.words p p_in)
    (rounds-suc 3 _ _ (c.round-w-4.ensures.words p p_in) (c.permuted-n-4.ensures.words p p_in)
    (rounds-suc 2 _ _ (c.round-w-5.ensures.words p p_in) (c.permuted-n-5.ensures.words p p_in)
    (rounds-suc 1 _ _ (c.round-w-6.ensures.words p p_in) (c.permuted-n-6.ensures.words p p_in)
    (c.round-2.ensures.words p p_in))))))
