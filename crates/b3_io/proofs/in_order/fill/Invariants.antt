use Rattle.std.proofs.Common.{◌≡◌, ◌+◌, ◌<◌, ◌≤◌, ◌++◌, IsSome, length, take}
use Rattle.b3_io.proofs.in_order.fill.Given as goal

-- what was left is what is in the buffer and what is left; each read gave bytes
abbrev pub invariant-reads : goal.invariant-reads
invariant-reads g l =
    let shelf = g.S.Shelf in
    record {
      parts : IsSome (shelf.told l.fn.shelf) → shelf.left l.fn.shelf ≡ take l.filled l.buffer ++ shelf.left l.shelf;
      within : l.filled ≤ length l.buffer;
      many : l.fn.turns ≤ l.turns + l.filled;
      some : 0 < l.turns;
      order : l.turns ≤ l.fn.turns;
      first : 0 < l.filled → l.turns < l.fn.turns;
      count : shelf.failures l.shelf ≡ shelf.failures l.fn.shelf;
      told : shelf.told l.shelf ≡ shelf.told l.fn.shelf;
      still_sure : shelf.is_sure l.shelf ≡ shelf.is_sure l.fn.shelf;
    }

abbrev pub decreases-reads : goal.decreases-reads
decreases-reads g l = l.turns
