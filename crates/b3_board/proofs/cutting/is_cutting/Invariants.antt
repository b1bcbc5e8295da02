use Rattle.std.proofs.Common.{take}
use Rattle.b3_board.specs.Plans.{IsCuttingTo}
use Rattle.b3_board.proofs.cutting.is_cutting.Given as goal

abbrev pub invariant-loop-span : goal.invariant-loop-span
invariant-loop-span l = IsCuttingTo l.n l.next (take l.span-index l.spans)
