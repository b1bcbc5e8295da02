use Rattle.std.proofs.Common.{[], ◌∷◌, ◌++◌, refl}
use Rattle.b3_core.specs.Rows.{row_words, undiagonalized}
use Rattle.b3_core.proofs.RowRounds.{picked, same_on_rows}
use Rattle.b3_core.proofs.compression.undiagonalized.Goals as goal

pub returns-clause-words : goal.returns-clause-words
returns-clause-words c =
    same_on_rows (λ v. picked (v.0 ++ v.0) (1 ∷ 2 ∷ 3 ∷ 0 ∷ []) ++ v.1 ++ picked (v.2 ++ v.2) (3 ∷ 0 ∷ 1 ∷ 2 ∷ [])
    ++ picked (v.3 ++ v.3) (2 ∷ 3 ∷ 0 ∷ 1 ∷ [])) (λ v. undiagonalized (row_words v)) (λ a b c d. refl)
    c.args.v c.requires
