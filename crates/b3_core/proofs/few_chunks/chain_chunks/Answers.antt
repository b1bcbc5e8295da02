use Rattle.std.proofs.Common.{◌∙◌, ap, arith, rules}
use Rattle.std.proofs.lemmas.List.{length-take}
use Rattle.b3_core.specs.Nodes.{chaining}
use Rattle.b3_core.proofs.FewChunks.{lone-chunk}
use Rattle.b3_core.proofs.few_chunks.chain_chunks.Goals as goal

pub returns-in-1 : goal.returns-in-1
returns-in-1 c =
    lone-chunk c.args.mode.now c.args.first c.args.bytes.now c.chaining.result c.among_eight.result
    c.among_eight.ensures (c.chaining.ensures ∙ ap chaining c.chunk_node.ensures) c.in-1.is

pub returns-in-3-to-4 : goal.returns-in-3-to-4
returns-in-3-to-4 c = search rules

pub chunk_node-requires : goal.chunk_node-requires
chunk_node-requires c = omega (arith, length-take 1024 c.args.bytes.now)
