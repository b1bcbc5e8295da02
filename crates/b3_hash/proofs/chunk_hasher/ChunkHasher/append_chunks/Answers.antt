use Rattle.std.proofs.Common.{◌+◌, ◌*◌, ◌∙◌, take, ◌≡◌, List, ℕ, ◌-◌, ◌/◌, ◌<◌, ◌≤◌, ◌^◌, [], length, sym, ap, subst, arith}
use Rattle.std.proofs.lemmas.List.{length-take-le}
use Rattle.std.specs.Prelude.{IfSome, Option}
use Rattle.b3_core.specs.Chunks.{chaining_value_at}
use Rattle.b3_hash.specs.OpenChunks.{chunk_state_len}
use Rattle.b3_hash.specs.Private.{chunk_state_of}
use Rattle.b3_hash.specs.ChunkHashers.{IsAllClosed, ChunkHasherState}
use Rattle.b3_hash.proofs.Standing.{EndsWithChunk-begin, EndsWithWindow-begin}
use Rattle.b3_hash.proofs.chunk_hasher.ChunkHasher.append_chunks.Goals as goal

pub returns-then-last-gt0-clause-ends_with : goal.returns-then-last-gt0-clause-ends_with
returns-then-last-gt0-clause-ends_with c = λ before closed more.
    let inside = c.self.inside in
    let input = c.args.input.now in
    let pushed = c.push_all_but_last-last.new.self in
    let chunks = c.push_all_but_last-last.ensures in
    let closed = subst (λ (s : ChunkHasherState). IsAllClosed s before) (sym c.self.view_is) closed in
    EndsWithWindow-begin inside.mode inside.closed.chunks pushed.chunks c.push_all_but_last-last.result.level
    pushed.values.items (chunk_state_of inside.last) before input c.push_all_but_last-last.result.bytes.now
    c.top-node.result
    closed.whole chunks.forward chunks.len chunks.rest (chunks.values before closed.whole closed.stack)
    closed.chunk_state
    (chunks.full c.if-last-gt0.true) c.top-node.ensures.value

pub returns-clause-ends_with : goal.returns-clause-ends_with
returns-clause-ends_with c = λ before closed more.
    let inside = c.self.inside in
    let input = c.args.input.now in
    let pushed = c.push_all_but_last-last.new.self in
    let chunks = c.push_all_but_last-last.ensures in
    let rest = c.push_all_but_last-last.result.bytes.now in
    let closed = subst (λ (s : ChunkHasherState). IsAllClosed s before) (sym c.self.view_is) closed in
    let more = subst (λ (s : ChunkHasherState). 0 < s.count → 0 < length input) (sym c.self.view_is) more in
    let level : c.push_all_but_last-last.result.level ≡ 0 = omega (arith, c.if-last-gt0.false) in
    let short : length rest ≤ 1024 = omega (arith, chunks.last, ap (λ k. 2 ^ k) level) in
    EndsWithChunk-begin inside.mode inside.closed.chunks pushed.chunks pushed.values.items
    (chunk_state_of c.append.new.self)
    before input rest closed.whole chunks.forward chunks.len chunks.rest more chunks.some short
    (chunks.values before closed.whole closed.stack)
    (c.append.ensures.chunk_state [] (closed.chunk_state pushed.chunks))

pub returns-in-Some-clause-ends_with : goal.returns-in-Some-clause-ends_with
returns-in-Some-clause-ends_with c = λ before closed more.
    let inside = c.self.inside in
    let input = c.args.input.now in
    let pushed = c.push_all_but_last-last.new.self in
    let chunks = c.push_all_but_last-last.ensures in
    let rest = c.push_all_but_last-last.result.bytes.now in
    let closed = subst (λ (s : ChunkHasherState). IsAllClosed s before) (sym c.self.view_is) closed in
    let more = subst (λ (s : ChunkHasherState). 0 < s.count → 0 < length input) (sym c.self.view_is) more in
    let level : c.push_all_but_last-last.result.level ≡ 0 = omega (arith, c.if-last-gt0.false) in
    let short : length rest ≤ 1024 = omega (arith, chunks.last, ap (λ k. 2 ^ k) level) in
    let reached = subst (λ (r : Option (List ℕ)). IfSome r (λ h. (c.push_all_but_last-last.result.level ≡ 0) × (0 < length rest)
    × (h ≡ chaining_value_at inside.mode pushed.chunks rest ((length rest - 1) / 64)))) c.in-Some.is chunks.reached in
    EndsWithChunk-begin inside.mode inside.closed.chunks pushed.chunks pushed.values.items
    (chunk_state_of c.begin.new.self)
    before input rest closed.whole chunks.forward chunks.len chunks.rest more chunks.some short
    (chunks.values before closed.whole closed.stack)
    (c.begin.ensures.chunk_state inside.mode pushed.chunks reached.2)

pub append-requires : goal.append-requires
append-requires c =
    let last = c.push_all_but_last-last in
    let begun = c.self.inside.last in
    let level : last.result.level ≡ 0 = omega (arith, c.if-last-gt0.false) in
    let empty : 64 * begun.closed_blocks + length (take begun.block_len begun.block) ≡ 0 =
    ap (λ (s : ChunkHasherState). chunk_state_len s.chunk_state) c.self.view_is ∙ c.requires.empty in
    let len = length-take-le begun.block_len begun.block (omega (arith, begun.block_size, begun.block_fits)) in
    omega (arith, empty, len, last.ensures.last, ap (λ k. 2 ^ k) level)
