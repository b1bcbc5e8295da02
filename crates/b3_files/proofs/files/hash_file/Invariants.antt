use Rattle.std.proofs.Common.{◌≡◌, IsTrue, List, length, take, ℕ}
use Rattle.b3_hash.specs.Hashers.{StandsFor, mode_of}
use Rattle.b3_files.proofs.files.hash_file.Given as goal

-- the hasher stands for what was read so far
abbrev pub invariant-loop : goal.invariant-loop
invariant-loop g l = record {
  content : List ℕ;
  stands : StandsFor l.hasher content;
  is : IsTrue g.F.Stream.tells → content ≡ take l.offset (g.F.Stream.content l.file);
  mode : mode_of l.hasher ≡ mode_of l.fn.hasher;
  len : length l.buffer ≡ length l.fn.buffer;
}
