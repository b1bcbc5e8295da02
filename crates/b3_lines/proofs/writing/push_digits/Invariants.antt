use Rattle.std.proofs.Common.{◌≡◌, ◌++◌}
use Rattle.std.specs.Slice.Iter.{chunks_rest, chunks_size}
use Rattle.hex.specs.Hex.{encode_lower}
use Rattle.b3_lines.proofs.writing.push_digits.Given as goal

-- what is written and the digits of what is left make up the digits of the digest
abbrev pub invariant-loop-piece : goal.invariant-loop-piece
invariant-loop-piece l =
    (goal.iterator-loop-piece).can_next l.piece-iterator ×
    (goal.iterator-loop-piece).is_finite l.piece-iterator ×
    (chunks_size l.piece-iterator ≡ 32) ×
    (l.line.items ++ encode_lower (chunks_rest l.piece-iterator) ≡ l.fn.line.items ++ encode_lower l.digest)
