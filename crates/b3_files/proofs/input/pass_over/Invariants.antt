use Rattle.std.proofs.Common.{◌≡◌, length}
use Rattle.b3_files.proofs.input.pass_over.Given as goal

abbrev pub invariant-loop-left : goal.invariant-loop-left
invariant-loop-left g l = record { buffer : length l.buffer ≡ length l.fn.buffer }

-- each read but the last gives a byte
abbrev pub decreases-loop-left : goal.decreases-loop-left
decreases-loop-left g l = l.left
