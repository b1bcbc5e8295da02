use Rattle.std.proofs.Common.{◌≡◌, ℕ, List, drop}
use Rattle.b3_io.specs.MemoryShelves.{shelf_contents}
use Rattle.b3_laws.specs.Files.{content_of}
use Rattle.b3_laws.proofs.files.shelf_of.Given as goal

abbrev pub invariant-loop-i : goal.invariant-loop-i
invariant-loop-i l = record {
  contents : (name : List ℕ) → shelf_contents l.shelf name ≡ content_of (drop l.i l.files) name;
  fresh : l.shelf.failures ≡ 0;
}
