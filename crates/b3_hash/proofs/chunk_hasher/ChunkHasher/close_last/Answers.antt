use Rattle.std.proofs.Common.{◌≡◌, ap, arith}
use Rattle.b3_hash.specs.OpenChunks.{chunk_state_len}
use Rattle.b3_hash.specs.ChunkHashers.{ChunkHasherState}
use Rattle.b3_hash.proofs.Standing.{IsAllClosed-none, chunk_state_len-chunk_state_of}
use Rattle.b3_hash.proofs.chunk_hasher.ChunkHasher.close_last.Goals as goal

pub returns-else-len-ne0-clause-closed : goal.returns-else-len-ne0-clause-closed
returns-else-len-ne0-clause-closed c = λ input held.
    let empty : chunk_state_len c.args.self.now.chunk_state ≡ 0 =
    omega (
      arith,
      chunk_state_len-chunk_state_of c.self.inside.last,
      ap (λ (s : ChunkHasherState). chunk_state_len s.chunk_state) c.self.view_is,
    ) in
    IsAllClosed-none c.args.self.now input held empty
