use Rattle.std.proofs.Common.{[], ◌∷◌, ◌++◌, refl}
use Rattle.b3_core.specs.Rows.{diagonalized, row_words}
use Rattle.b3_core.specs.Pairs.{half_rows}
use Rattle.b3_core.proofs.RowRounds.{picked}
use Rattle.b3_core.proofs.HalfRows.{same_on_halves}
use Rattle.b3_core.proofs.pair_rows.diagonalized.Goals as goal

pub returns-clause-words : goal.returns-clause-words
returns-clause-words c =
    same_on_halves (λ p v. row_words (half_rows p (
      picked (v.0 ++ v.0) (3 ∷ 0 ∷ 1 ∷ 2 ∷ 7 ∷ 4 ∷ 5 ∷ 6 ∷ []),
      v.1,
      picked (v.2 ++ v.2) (1 ∷ 2 ∷ 3 ∷ 0 ∷ 5 ∷ 6 ∷ 7 ∷ 4 ∷ []),
      picked (v.3 ++ v.3) (2 ∷ 3 ∷ 0 ∷ 1 ∷ 6 ∷ 7 ∷ 4 ∷ 5 ∷ []),
    )))
    (λ p v. diagonalized (row_words (half_rows p v))) (λ a b c d. refl) (λ a b c d. refl) c.args.v c.requires
