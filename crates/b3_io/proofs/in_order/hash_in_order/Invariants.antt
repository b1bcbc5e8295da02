use Rattle.std.proofs.Common.{◌≡◌, ℕ, ◌+◌, ◌*◌, ◌<◌, ◌≤◌, List}
use Rattle.b3_hash.specs.Hashers.{StandsFor, length_of, mode_of}
use Rattle.b3_io.specs.declared.buffer.TheConstants.{READ_LEN}
use Rattle.b3_io.proofs.ReadLemmas.{ReadSoFar}
use Rattle.b3_io.proofs.in_order.hash_in_order.Given as goal

-- the hasher stands for what was read so far, of which each read gave so many bytes at most
abbrev pub invariant-fills : goal.invariant-fills
invariant-fills g l =
    let shelf = g.S.Shelf in
    record {
      before : List ℕ;
      stands : StandsFor l.hasher before;
      read : ReadSoFar (shelf.told l.fn.shelf) (shelf.left l.fn.shelf) (shelf.left l.shelf) before l.turns l.left;
      mode : mode_of l.hasher ≡ l.mode;
      few : length_of l.hasher + READ_LEN * l.left ≤ READ_LEN * l.turns;
      some : 0 < l.left;
      count : shelf.failures l.shelf ≡ shelf.failures l.fn.shelf;
      told : shelf.told l.shelf ≡ shelf.told l.fn.shelf;
      still_sure : shelf.is_sure l.shelf ≡ shelf.is_sure l.fn.shelf;
    }

abbrev pub decreases-fills : goal.decreases-fills
decreases-fills g l = l.left
