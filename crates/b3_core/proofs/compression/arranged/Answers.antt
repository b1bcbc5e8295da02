use Rattle.std.proofs.Common.{[], ◌∷◌, ◌++◌, refl}
use Rattle.b3_core.specs.Rows.{message_of, row_words}
use Rattle.b3_core.proofs.RowRounds.{picked, same_on_rows}
use Rattle.b3_core.proofs.compression.arranged.Goals as goal

pub returns-clause-words : goal.returns-clause-words
returns-clause-words c =
    same_on_rows (λ v. message_of (picked (v.0 ++ v.1) (0 ∷ 2 ∷ 4 ∷ 6 ∷ []) ++ picked (v.0 ++ v.1) (1 ∷ 3 ∷ 5 ∷ 7 ∷ [])
    ++ picked (picked (v.2 ++ v.3) (0 ∷ 2 ∷ 4 ∷ 6 ∷ []) ++ picked (v.2 ++ v.3) (0 ∷ 2 ∷ 4 ∷ 6 ∷ []))
    (3 ∷ 0 ∷ 1 ∷ 2 ∷ [])
    ++ picked (picked (v.2 ++ v.3) (1 ∷ 3 ∷ 5 ∷ 7 ∷ []) ++ picked (v.2 ++ v.3) (1 ∷ 3 ∷ 5 ∷ 7 ∷ []))
    (3 ∷ 0 ∷ 1 ∷ 2 ∷ [])))
    row_words (λ a b c d. refl) c.args.m c.requires
