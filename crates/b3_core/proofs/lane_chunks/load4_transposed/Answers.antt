use Rattle.std.proofs.Common.{◌≡◌, ℕ, zero, suc, ◌+◌, ◌*◌, ◌<◌, ◌∙◌, List, [], ◌∷◌, length, get_or, refl, lit<, arith}
use Rattle.b3_core.specs.Lanes.{lane, word_at_offset}
use Rattle.b3_core.proofs.LaneChunks.{exchanged, exchanged-lanes}
use Rattle.b3_core.proofs.lane_chunks.load4_transposed.Goals as goal

pub returns-clause-lanes : goal.returns-clause-lanes
returns-clause-lanes c j lt =
    let f : ℕ → ℕ → ℕ = λ j i. word_at_offset c.args.bytes.now
    (get_or c.args.offsets.now j 0 + c.args.offset + 4 * i) in
    (λ i. lane j (exchanged (c.load4_pair-r0.ensures i) (c.load4_pair-r1.ensures i) (c.load4_pair-r2.ensures i)
    (c.load4_pair-r3.ensures i)))
    ∙ exchanged-lanes f j lt

-- four vectors
four_wide : (p q r s : List ℕ) → length p ≡ 8 → length q ≡ 8 → length r ≡ 8 → length s ≡ 8
    → (i : ℕ) → i < 4 → length (get_or (p ∷ q ∷ r ∷ s ∷ []) i []) ≡ 8
four_wide p q r s p8 q8 r8 s8 zero lt = p8
four_wide p q r s p8 q8 r8 s8 (suc zero) lt = q8
four_wide p q r s p8 q8 r8 s8 (suc (suc zero)) lt = r8
four_wide p q r s p8 q8 r8 s8 (suc (suc (suc zero))) lt = s8
four_wide p q r s p8 q8 r8 s8 (suc (suc (suc (suc i)))) lt = absurd (omega arith)

pub returns-clause-wide : goal.returns-clause-wide
returns-clause-wide c = (refl, four_wide _ _ _ _ refl refl refl refl)

pub overflow_add-offsets-5 : goal.overflow_add-offsets-5
overflow_add-offsets-5 c = omega (arith, c.requires 2 (lit< tt))

pub overflow_add-offsets-6 : goal.overflow_add-offsets-6
overflow_add-offsets-6 c = omega (arith, c.requires 6 (lit< tt))

pub overflow_add-offsets-7 : goal.overflow_add-offsets-7
overflow_add-offsets-7 c = omega (arith, c.requires 3 (lit< tt))

pub overflow_add-offsets-8 : goal.overflow_add-offsets-8
overflow_add-offsets-8 c = omega (arith, c.requires 7 (lit< tt))
