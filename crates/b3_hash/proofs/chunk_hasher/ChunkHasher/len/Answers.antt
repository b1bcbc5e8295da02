use Rattle.std.proofs.Common.{◌≡◌, ◌+◌, ◌*◌, subst, arith}
use Rattle.b3_hash.specs.ChunkHashers.{ChunkHasherState, chunks_len}
use Rattle.b3_hash.proofs.Standing.{chunk_state_len-chunk_state_of}
use Rattle.b3_hash.proofs.chunk_hasher.ChunkHasher.len.Goals as goal

pub returns : goal.returns
returns c =
    subst (λ (s : ChunkHasherState). 1024 * c.self.inside.closed.chunks + c.len.result ≡ chunks_len s) c.self.view_is
    (omega (arith, chunk_state_len-chunk_state_of c.self.inside.last, c.len.ensures))
