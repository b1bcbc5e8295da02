use Rattle.std.proofs.Common.{◌*◌, drop, sym, ap, subst, arith}
use Rattle.b3_hash.specs.OpenChunks.{chunk_state_len}
use Rattle.b3_hash.specs.Private.{chunk_state_of}
use Rattle.b3_hash.specs.ChunkHashers.{EndsWithChunk, ChunkHasherState}
use Rattle.b3_hash.proofs.Standing.{EndsWithChunk-append}
use Rattle.b3_hash.proofs.chunk_hasher.ChunkHasher.extend_block.Goals as goal

pub returns-clause-ends_with : goal.returns-clause-ends_with
returns-clause-ends_with c = λ before held.
    let inside = c.self.inside in
    let count = inside.closed.chunks in
    let held = subst (λ (s : ChunkHasherState). EndsWithChunk s before) (sym c.self.view_is) held in
    let len = ap (λ (s : ChunkHasherState). chunk_state_len s.chunk_state) c.self.view_is in
    EndsWithChunk-append inside.mode count inside.closed.values.items (chunk_state_of inside.last)
    (chunk_state_of c.extend_block.new.self) before c.args.front.now held (omega (arith, c.requires.room))
    (c.extend_block.ensures.chunk_state inside.mode count (drop (1024 * count) before) held.chunk_state)
