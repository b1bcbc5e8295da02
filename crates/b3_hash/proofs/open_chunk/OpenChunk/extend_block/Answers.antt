use Rattle.std.proofs.Common.{◌≡◌, ℕ, ◌+◌, ◌-◌, ◌≤◌, ap, sym, take, drop, replicate, ◌∙◌, ◌++◌, length, min, arith, refl}
use Rattle.std.proofs.lemmas.List.{length-append, length-drop, drop-drop, drop-replicate, length-take}
use Rattle.std.proofs.lemmas.Slice.{drop-put_mid, take-put_mid}
use borrow.Rule.Slice.PartMut.{put_mid}
use Rattle.b3_hash.specs.Private.{chunk_state_of}
use Rattle.b3_hash.proofs.ChunkStates.{HasBytes-append, IsChunkState-within}
use Rattle.b3_hash.proofs.open_chunk.OpenChunk.extend_block.Goals as goal

pub returns-clause-bytes : goal.returns-clause-bytes
returns-clause-bytes c = λ mode number bytes held.
    let self = c.args.self.now in
    let piece = c.args.piece.now in
    let end = self.block_len + length piece in
    let after = put_mid self.block_len (end - self.block_len) self.block piece in
    let placed : take end after ≡ take self.block_len self.block ++ piece =
    take-put_mid self.block_len (end - self.block_len) self.block piece end refl (omega arith) in
    HasBytes-append mode number (chunk_state_of self) bytes piece _ held
    (ap (λ ys. take end (put_mid self.block_len (end - self.block_len) self.block ys))
    c.copy_from_slice.ensures.after ∙ placed)

pub returns-clause-chunk_state : goal.returns-clause-chunk_state
returns-clause-chunk_state c = λ mode number bytes chunk_state.
    let self = c.args.self.now in
    let end = self.block_len + length c.args.piece.now in
    let after = put_mid self.block_len (end - self.block_len) self.block c.copy_from_slice.new.self in
    let fits : length (take end after) ≤ 64 = omega (arith, length-take end after, c.requires.block) in
    IsChunkState-within mode number (chunk_state_of self) _ bytes c.args.piece.now chunk_state
    (returns-clause-bytes c mode number bytes chunk_state.has_bytes) refl fits

pub invariant_of-self-clause-padding : goal.invariant_of-self-clause-padding
invariant_of-self-clause-padding c =
    let self = c.args.self.now in
    let piece = c.args.piece.now in
    let count : ℕ = self.block_len + length piece - self.block_len in
    drop-put_mid self.block_len count self.block c.copy_from_slice.new.self (self.block_len + length piece) (omega arith)
    (omega (arith, self.block_size, self.block_fits)) (ap length c.copy_from_slice.ensures.after ∙ omega arith)
    ∙ sym (drop-drop (length piece) self.block_len self.block)
    ∙ ap (drop (length piece)) self.padding
    ∙ drop-replicate (length piece) (64 - self.block_len) 0
    ∙ ap (λ n. replicate n 0) (omega arith)

pub invariant_of-self-clause-block_size : goal.invariant_of-self-clause-block_size
invariant_of-self-clause-block_size c =
    let self = c.args.self.now in
    let piece = c.copy_from_slice.new.self in
    let count : ℕ = self.block_len + length c.args.piece.now - self.block_len in
    let len : length (put_mid self.block_len count self.block piece)
    ≡ min self.block_len (length self.block) + (length piece + (length self.block - self.block_len - count)) =
    simp (length-append, length-drop, length-take) in
    omega (arith, len, ap length c.copy_from_slice.ensures.after, self.block_size, c.requires.block)
