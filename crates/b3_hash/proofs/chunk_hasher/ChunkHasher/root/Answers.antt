use Rattle.std.proofs.Common.{◌≡◌, ◌≤◌, ◌*◌, ◌∙◌, ℕ, List, length, drop, sym, subst, arith}
use Rattle.std.proofs.lemmas.List.{length-drop}
use Rattle.b3_core.specs.Tree.{top}
use Rattle.b3_core.proofs.Subtrees.{top-chunk}
use Rattle.b3_hash.specs.ChunkHashers.{EndsWithChunk, ChunkHasherState}
use Rattle.b3_hash.proofs.chunk_hasher.ChunkHasher.root.Goals as goal

pub returns : goal.returns
returns c =
    let inside = c.self.inside in
    let count = inside.closed.chunks in
    subst (λ (s : ChunkHasherState). (input : List ℕ) → EndsWithChunk s input → c.root.result ≡ top s.mode 0 input)
    c.self.view_is
    (λ input held.
    let rest = drop (1024 * count) input in
    let fits = held.last in
    let short : length rest ≤ 1024 = omega (arith, length-drop (1024 * count) input) in
    c.root.ensures 0 input (omega arith) (omega arith) held.stack
    (c.node-last.ensures rest held.chunk_state ∙ sym (top-chunk inside.mode count rest short))
    held.further (omega (arith, held.last)))
