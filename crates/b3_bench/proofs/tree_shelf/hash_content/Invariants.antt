use Rattle.std.proofs.Common.{◌≡◌, List, length, ℕ}
use Rattle.b3_hash.specs.Hashers.{StandsFor, mode_of}
use Rattle.b3_bench.proofs.tree_shelf.hash_content.Given as goal

-- the hasher stands for the pieces so far
abbrev pub invariant-pieces : goal.invariant-pieces
invariant-pieces l = record {
  so_far : List ℕ;
  stands : StandsFor l.hasher so_far;
  mode : mode_of l.hasher ≡ mode_of l.fn.hasher;
  len : length l.buffer ≡ length l.fn.buffer;
}
