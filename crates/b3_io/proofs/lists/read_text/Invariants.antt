use Rattle.std.proofs.Common.{◌≡◌, ◌<◌, ◌≤◌, vec_len}
use Rattle.b3_io.proofs.ReadLemmas.{ReadSoFar}
use Rattle.b3_io.proofs.lists.read_text.Given as goal

-- what was read so far is in the text
abbrev pub invariant-fills : goal.invariant-fills
invariant-fills g l =
    let shelf = g.S.Shelf in
    record {
      read : ReadSoFar (shelf.told l.fn.shelf) (shelf.left l.fn.shelf) (shelf.left l.shelf) l.text.items l.limits.turns
          l.turns;
      small : vec_len l.text ≤ l.limits.largest;
      some : 0 < l.turns;
      count : shelf.failures l.shelf ≡ shelf.failures l.fn.shelf;
      told : shelf.told l.shelf ≡ shelf.told l.fn.shelf;
      still_sure : shelf.is_sure l.shelf ≡ shelf.is_sure l.fn.shelf;
    }

abbrev pub decreases-fills : goal.decreases-fills
decreases-fills g l = l.turns
