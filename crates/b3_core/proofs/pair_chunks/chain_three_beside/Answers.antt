use Rattle.std.proofs.Common.{◌≡◌, ℕ, ◌+◌, ◌<◌, ◌∙◌, ap, refl, arith}
use Rattle.b3_core.specs.Chunks.{chaining_value_at, chunk_at}
use Rattle.b3_core.specs.Lanes.{after_blocks, chunk_chaining}
use Rattle.b3_core.proofs.LaneChunks.{after_blocks-chaining_value_at}
use Rattle.b3_core.proofs.HalfRows.{two_and_one}
use Rattle.b3_core.proofs.pair_chunks.chain_three_beside.Goals as goal

pub returns-clause-chunks : goal.returns-clause-chunks
unfolding chaining_value_at
returns-clause-chunks c =
    let mode = c.args.mode.now in
    let first : ℕ = c.args.first in
    let bytes = c.args.bytes.now in
    let key = c.key_rows-key.ensures.words in
    let number : first + 2 + 0 ≡ first + 2 = omega arith in
    let front = λ (j : ℕ) (j_in : j < 2). c.both_words-front.ensures j j_in
    ∙ c.four_blocks-pairs.ensures.front j j_in (c.four_blocks-together.ensures.front j j_in (key j j_in)) in
    two_and_one (λ j words. words ≡ chunk_chaining mode first bytes j) _ _ _ _ (front 0 (omega arith)) (front 1 (omega arith))
    (c.both_words-back.ensures 0 (omega arith)
    ∙ c.four_blocks-pairs.ensures.back 0 (omega arith) (λ is. omega (arith, is))
    (c.four_blocks-together.ensures.back 0 (omega arith) (λ is. omega (arith, is)) (key 0 (omega arith)))
    ∙ ap (λ n. after_blocks mode n (chunk_at bytes 2) 16) number)

pub returns-clause-beside : goal.returns-clause-beside
unfolding chaining_value_at
returns-clause-beside c =
    let first : ℕ = c.args.first in
    let number : first + 2 + 1 ≡ first + 3 = omega arith in
    c.both_words-fourth.ensures 1 (omega arith)
    ∙ c.four_blocks-together.ensures.back 1 (omega arith) (λ is. refl) (c.key_rows-key.ensures.words 1 (omega arith))
    ∙ after_blocks-chaining_value_at c.args.mode.now (first + 2 + 1) (chunk_at c.args.bytes.now 3) c.args.blocks
    (λ is. omega (arith, is))
    ∙ ap (λ n. chaining_value_at c.args.mode.now n (chunk_at c.args.bytes.now 3) c.args.blocks) number
