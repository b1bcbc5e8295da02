use Rattle.std.proofs.Common.{◌≡◌, ℕ, ◌+◌, ◌∙◌, ap, arith}
use Rattle.b3_core.specs.Chunks.{chaining_value_at, chunk_at}
use Rattle.b3_core.specs.Lanes.{after_blocks, chunk_chaining}
use Rattle.b3_core.proofs.HalfRows.{two_and_two}
use Rattle.b3_core.proofs.pair_chunks.chain_four.Goals as goal

pub returns : goal.returns
unfolding chaining_value_at
returns c =
    let mode = c.args.mode.now in
    let first : ℕ = c.args.first in
    let bytes = c.args.bytes.now in
    let key = c.key_rows-key.ensures.words in
    two_and_two (λ j words. words ≡ chunk_chaining mode first bytes j) c.both_words-front.result c.both_words-back.result
    c.args.n c.requires.room
    (λ j j_in. c.both_words-front.ensures j j_in ∙ c.four_blocks-pairs.ensures.front j j_in (key j j_in))
    (λ j j_in within.
    let number : first + 2 + j ≡ first + (2 + j) = omega arith in
    c.both_words-back.ensures j j_in
    ∙ c.four_blocks-pairs.ensures.back j j_in (λ is. omega (arith, is, within, c.requires.room)) (key j j_in)
    ∙ ap (λ n. after_blocks mode n (chunk_at bytes (2 + j)) 16) number)
