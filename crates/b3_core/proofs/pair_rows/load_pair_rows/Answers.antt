use Rattle.std.proofs.Common.{ℕ, ◌+◌, ◌*◌, length, [], ◌∷◌, ◌++◌, ◌∙◌}
use Rattle.b3_core.specs.Rows.{message_of, row_words}
use Rattle.b3_core.specs.Pairs.{half_rows, of_half}
use Rattle.b3_core.specs.Lanes.{word_at_offset}
use Rattle.b3_core.proofs.RowRounds.{picked}
use Rattle.b3_core.proofs.LaneChunks.{four_by_four-block}
use Rattle.b3_core.proofs.HalfRows.{arranged-halves, of_half-within}
use Rattle.b3_core.proofs.pair_rows.load_pair_rows.Goals as goal

pub returns-clause-words : goal.returns-clause-words
returns-clause-words c p p_in =
    let bytes = c.args.bytes.now in
    let start : ℕ → ℕ = λ p. of_half p c.args.offset c.args.next in
    (λ i. message_of (row_words (half_rows p (
      picked (c.load4_pair-w0.ensures i ++ c.load4_pair-w1.ensures i) (0 ∷ 2 ∷ 8 ∷ 10 ∷ 4 ∷ 6 ∷ 12 ∷ 14 ∷ []),
      picked (c.load4_pair-w0.ensures i ++ c.load4_pair-w1.ensures i) (1 ∷ 3 ∷ 9 ∷ 11 ∷ 5 ∷ 7 ∷ 13 ∷ 15 ∷ []),
      picked (c.load4_pair-w2.ensures i ++ c.load4_pair-w3.ensures i) (10 ∷ 0 ∷ 2 ∷ 8 ∷ 14 ∷ 4 ∷ 6 ∷ 12 ∷ []),
      picked (c.load4_pair-w2.ensures i ++ c.load4_pair-w3.ensures i) (11 ∷ 1 ∷ 3 ∷ 9 ∷ 15 ∷ 5 ∷ 7 ∷ 13 ∷ []),
    ))))
    ∙ arranged-halves (λ p i. word_at_offset bytes (start p + 4 * i)) (λ p i. word_at_offset bytes (start p + 16 + 4 * i))
    (λ p i. word_at_offset bytes (start p + 32 + 4 * i)) (λ p i. word_at_offset bytes (start p + 48 + 4 * i)) p p_in
    ∙ four_by_four-block bytes (start p)
    (of_half-within p c.args.offset c.args.next 64 (length bytes) c.requires.offset c.requires.next)
