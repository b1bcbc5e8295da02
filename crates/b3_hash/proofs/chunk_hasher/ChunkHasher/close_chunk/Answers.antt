use Rattle.std.proofs.Common.{◌≡◌, ◌≤◌, ◌*◌, length, drop, sym, ap, subst, ◌∙◌, arith}
use Rattle.std.proofs.lemmas.List.{length-drop}
use Rattle.b3_hash.specs.OpenChunks.{chunk_state_len}
use Rattle.b3_hash.specs.Private.{chunk_state_of}
use Rattle.b3_hash.specs.ChunkHashers.{EndsWithChunk, ChunkHasherState}
use Rattle.b3_hash.proofs.Runs.{subtree_chaining-chunk}
use Rattle.b3_hash.proofs.Standing.{IsAllClosed-close, length-EndsWithChunk}
use Rattle.b3_hash.proofs.chunk_hasher.ChunkHasher.close_chunk.Goals as goal

pub returns-clause-closed : goal.returns-clause-closed
returns-clause-closed c = λ input held.
    let inside = c.self.inside in
    let count = inside.closed.chunks in
    let rest = drop (1024 * count) input in
    let full : chunk_state_len (chunk_state_of inside.last) ≡ 1024 =
    ap (λ (s : ChunkHasherState). chunk_state_len s.chunk_state) c.self.view_is ∙ c.requires in
    let held = subst (λ (s : ChunkHasherState). EndsWithChunk s input) (sym c.self.view_is) held in
    let len = length-EndsWithChunk _ input held in
    let short : length rest ≤ 1024 = omega (arith, length-drop (1024 * count) input) in
    let value = subtree_chaining-chunk inside.mode input count c.chaining-value.result c.node.result short
    (c.node.ensures rest held.chunk_state) c.chaining-value.ensures in
    IsAllClosed-close inside.mode count c.push.new.self.chunks inside.closed.values.items c.push.new.self.values.items
    (chunk_state_of inside.last) (chunk_state_of c.new-self-inside.result) input held full c.push.ensures.chunks
    (c.push.ensures.values input (omega arith) value held.stack) c.new-self-inside.ensures.chunk_state
