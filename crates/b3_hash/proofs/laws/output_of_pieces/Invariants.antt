use Rattle.std.proofs.Common.{◌≡◌, length, take}
use Rattle.b3_hash.specs.Hashers.{StandsFor, length_of, mode_of}
use Rattle.b3_hash.specs.Laws.{concatenated}
use Rattle.b3_hash.proofs.laws.output_of_pieces.Given as goal

-- the hasher stands for the pieces so far
abbrev pub invariant-loop-piece : goal.invariant-loop-piece
invariant-loop-piece l = record {
  mode : mode_of l.hasher ≡ l.fn.mode;
  len : length_of l.hasher ≡ length (concatenated (take l.piece-index l.pieces));
  stands_for : StandsFor l.hasher (concatenated (take l.piece-index l.pieces));
}
