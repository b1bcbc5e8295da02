use Rattle.std.proofs.Common.{◌≡◌, ◌-◌, ◌++◌, ◌∙◌, length, take, drop, ap, subst, append_assoc, arith}
use Rattle.std.proofs.lemmas.List.{length-take, take_all}
use Rattle.b3_hash.specs.OpenChunks.{IsChunkState}
use Rattle.b3_hash.specs.Private.{chunk_state_of}
use Rattle.b3_hash.proofs.ChunkStates.{IsChunkState-open, take-piece}
use Rattle.b3_hash.proofs.open_chunk.OpenChunk.append_past_block.Goals as goal

pub returns-then-self-eq0-clause-chunk_state : goal.returns-then-self-eq0-clause-chunk_state
returns-then-self-eq0-clause-chunk_state c = λ before chunk_state.
    let after = c.append_blocks.new.self in
    let len : length (take after.block_len after.block) ≡ after.block_len =
    omega (arith, length-take after.block_len after.block, after.block_fits, after.block_size) in
    IsChunkState-open c.args.mode.now c.args.number (chunk_state_of after) _
    (c.append_blocks.ensures.bytes before chunk_state.has_bytes) (omega (arith, len, c.append_blocks.ensures.some))
    (omega (arith, len, after.block_fits))

pub returns-clause-chunk_state : goal.returns-clause-chunk_state
returns-clause-chunk_state c = λ before chunk_state.
    let self = c.args.self.now in
    let bytes = c.args.bytes.now in
    let room = 64 - self.block_len in
    let front = take room bytes in
    let rest = take (length bytes - room) (drop room bytes) in
    let after = c.append_blocks-2.new.self in
    let len : length (take after.block_len after.block) ≡ after.block_len =
    omega (arith, length-take after.block_len after.block, after.block_fits, after.block_size) in
    let filled = c.fill_block.ensures.bytes c.args.mode.now c.args.number before chunk_state.has_bytes in
    let held = c.append_blocks-2.ensures.bytes (before ++ front) (c.close_block.ensures.bytes (before ++ front) filled) in
    let joined = append_assoc before front rest
    ∙ ap (λ piece. before ++ piece) (take-piece room (length bytes) bytes (omega (arith, c.requires.more))
    ∙ take_all (length bytes) bytes (omega arith)) in
    subst (IsChunkState c.args.mode.now c.args.number (chunk_state_of after)) joined
    (IsChunkState-open c.args.mode.now c.args.number (chunk_state_of after) _ held
    (omega (arith, len, c.append_blocks-2.ensures.some)) (omega (arith, len, after.block_fits)))
