use Rattle.std.proofs.Common.{◌-◌, ◌≤◌}
use Rattle.b3_hash.specs.Hashers.{length_of}
use Rattle.b3_devices.specs.Parts.{HasHashed}
use Rattle.b3_devices.proofs.at_offsets.hash_regions.Given as goal

-- the hasher stands for the regions before
abbrev pub invariant-regions : goal.invariant-regions
invariant-regions g l = record {
  hashed : HasHashed (g.S.Shelf.told l.shelf) (g.S.Shelf.left l.shelf) l.mode l.hasher;
  reached : length_of l.hasher ≤ l.len;
}

abbrev pub decreases-regions : goal.decreases-regions
decreases-regions g l = l.len - length_of l.hasher
