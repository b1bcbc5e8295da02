use Rattle.std.proofs.Common.{◌≡◌, ◌-◌, ◌*◌, ◌/◌, ◌++◌, ◌∙◌, length, take, drop, ap, subst, append_assoc, arith}
use Rattle.std.proofs.lemmas.List.{length-take, length-take-le, take_all}
use Rattle.b3_hash.specs.OpenChunks.{HasBytes}
use Rattle.b3_hash.specs.Private.{chunk_state_of}
use Rattle.b3_hash.proofs.ChunkStates.{HasBytes-chained, take-piece}
use Rattle.b3_hash.proofs.open_chunk.OpenChunk.append_blocks.Goals as goal

pub returns-clause-bytes : goal.returns-clause-bytes
returns-clause-bytes c = λ before held.
    let self = c.args.self.now in
    let mode = c.args.mode.now in
    let bytes = c.args.bytes.now in
    let count = (length bytes - 1) / 64 in
    let blocks = take (64 * count) bytes in
    let last = take (length bytes - 64 * count) (drop (64 * count) bytes) in
    let whole : length blocks ≡ 64 * count = length-take-le (64 * count) bytes (omega arith) in
    let empty : length (take self.block_len self.block) ≡ 0 =
    omega (arith, length-take self.block_len self.block, c.requires.empty) in
    let closed = HasBytes-chained mode c.args.number (chunk_state_of self) before blocks c.chain_onto.new.h count
    held empty whole c.chain_onto.ensures.chunk in
    let joined = append_assoc before blocks last
    ∙ ap (λ piece. before ++ piece) (take-piece (64 * count) (length bytes) bytes (omega arith)
    ∙ take_all (length bytes) bytes (omega arith)) in
    subst (HasBytes mode c.args.number (chunk_state_of c.extend_block-2.new.self)) joined
    (c.extend_block-2.ensures.bytes mode c.args.number (before ++ blocks) closed)
