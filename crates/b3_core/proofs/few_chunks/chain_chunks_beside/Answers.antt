use Rattle.std.proofs.Common.{◌≡◌, ◌+◌, [], get_or, sym, ◌∙◌, arith}
use Rattle.b3_core.specs.Chunks.{chaining_value_at, chunk_at}
use Rattle.b3_core.specs.Lanes.{chunk_chaining}
use Rattle.b3_core.proofs.FewChunks.{among, below_one}
use Rattle.b3_core.proofs.few_chunks.chain_chunks_beside.Goals as goal

pub returns-in-1-clause-chunks : goal.returns-in-1-clause-chunks
returns-in-1-clause-chunks c j j_in =
    below_one (λ j. get_or c.among_eight.result j [] ≡ chunk_chaining c.args.mode.now c.args.first c.args.bytes.now j)
    (among c.chain_one_beside.result c.among_eight.result 2 0 c.among_eight.ensures (omega arith)
    ∙ c.chain_one_beside.ensures.chunk) j (omega (arith, c.in-1.is))

pub returns-in-1-clause-beside : goal.returns-in-1-clause-beside
returns-in-1-clause-beside c =
    (λ i. get_or c.among_eight.result (c.in-1.is i) [])
    ∙ among c.chain_one_beside.result c.among_eight.result 2 1 c.among_eight.ensures (omega arith)
    ∙ c.chain_one_beside.ensures.beside
    ∙ (λ i. chaining_value_at c.args.mode.now (c.args.first + sym c.in-1.is i) (chunk_at c.args.bytes.now (sym c.in-1.is i))
    c.args.blocks)

pub returns-in-3-clause-beside : goal.returns-in-3-clause-beside
returns-in-3-clause-beside c =
    (λ i. get_or c.among_eight-in-3.result (c.in-3.is i) [])
    ∙ among c.chain_three_beside.result c.among_eight-in-3.result 4 3 c.among_eight-in-3.ensures (omega arith)
    ∙ c.chain_three_beside.ensures.beside
    ∙ (λ i. chaining_value_at c.args.mode.now (c.args.first + sym c.in-3.is i) (chunk_at c.args.bytes.now (sym c.in-3.is i))
    c.args.blocks)
