use Rattle.std.proofs.Common.{◌≡◌, map, take}
use Rattle.b3_board.specs.Entries.{fresh}
use Rattle.b3_board.proofs.entries.opened.Given as goal

abbrev pub invariant-loop-span : goal.invariant-loop-span
invariant-loop-span l = l.entries.items ≡ map fresh (take l.span-index l.spans)
