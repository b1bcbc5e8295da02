use Rattle.std.proofs.Common.{◌≡◌, map}
use Rattle.std.specs.List.{range_with_len}
use Rattle.b3_board.specs.Plans.{grain_span}
use Rattle.b3_board.proofs.cutting.grain_spans.Given as goal

abbrev pub invariant-loop-i : goal.invariant-loop-i
invariant-loop-i l = l.spans.items ≡ map (grain_span l.n l.grain) (range_with_len 0 l.i)
