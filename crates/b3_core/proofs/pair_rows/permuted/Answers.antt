use Rattle.std.proofs.Common.{[], ◌∷◌, ◌++◌, refl}
use Rattle.b3_core.specs.Compression.{permuted}
use Rattle.b3_core.specs.Rows.{message_of, row_words}
use Rattle.b3_core.specs.Pairs.{half_rows}
use Rattle.b3_core.proofs.RowRounds.{picked}
use Rattle.b3_core.proofs.HalfRows.{same_on_halves}
use Rattle.b3_core.proofs.pair_rows.permuted.Goals as goal

pub returns-clause-words : goal.returns-clause-words
unfolding permuted
returns-clause-words c =
    same_on_halves (λ p v. message_of (row_words (half_rows p (
      picked (v.0 ++ v.1) (1 ∷ 9 ∷ 11 ∷ 2 ∷ 5 ∷ 13 ∷ 15 ∷ 6 ∷ []),
      picked (picked (v.0 ++ v.2) (3 ∷ 10 ∷ 0 ∷ 0 ∷ 7 ∷ 14 ∷ 4 ∷ 4 ∷ []) ++ v.3) (0 ∷ 1 ∷ 2 ∷ 11 ∷ 4 ∷ 5 ∷ 6 ∷ 15 ∷ []),
      picked (picked (v.3 ++ v.1) (0 ∷ 8 ∷ 0 ∷ 1 ∷ 4 ∷ 12 ∷ 4 ∷ 5 ∷ []) ++ v.2) (0 ∷ 1 ∷ 11 ∷ 3 ∷ 4 ∷ 5 ∷ 15 ∷ 7 ∷ []),
      picked (picked (v.2 ++ v.3) (1 ∷ 10 ∷ 0 ∷ 0 ∷ 5 ∷ 14 ∷ 4 ∷ 4 ∷ []) ++ v.1) (0 ∷ 1 ∷ 10 ∷ 3 ∷ 4 ∷ 5 ∷ 14 ∷ 7 ∷ []),
    )))) (λ p v. permuted (message_of (row_words (half_rows p v)))) (λ a b c d. refl) (λ a b c d. refl)
    c.args.m c.requires
