use Rattle.std.proofs.Common.{◌≡◌, ◌≤◌, ◌*◌, ◌∙◌, ℕ, List, length, drop, sym, ap, subst, arith}
use Rattle.b3_core.specs.Tree.{top}
use Rattle.b3_core.proofs.Subtrees.{top-chunk}
use Rattle.b3_hash.specs.OpenChunks.{IsChunkState}
use Rattle.b3_hash.specs.Private.{chunk_state_of}
use Rattle.b3_hash.specs.ChunkHashers.{EndsWithChunk, ChunkHasherState}
use Rattle.b3_hash.proofs.chunk_hasher.ChunkHasher.only_node.Goals as goal

pub returns : goal.returns
returns c =
    let inside = c.self.inside in
    let none : inside.closed.chunks ≡ 0 = ap (λ (s : ChunkHasherState). s.count) c.self.view_is ∙ c.requires in
    subst (λ (s : ChunkHasherState). (input : List ℕ) → EndsWithChunk s input → c.node.result ≡ top s.mode 0 input)
    c.self.view_is
    (λ input held.
    let last = held.last in
    let short : length input ≤ 1024 = omega (arith, none) in
    let alone : IsChunkState inside.mode 0 (chunk_state_of inside.last) input =
    subst (λ (k : ℕ). IsChunkState inside.mode k (chunk_state_of inside.last) (drop (1024 * k) input)) none
    held.chunk_state in
    c.node.ensures input alone ∙ sym (top-chunk inside.mode 0 input short))
