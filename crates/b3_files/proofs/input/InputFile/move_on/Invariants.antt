use Rattle.std.proofs.Common.{◌≡◌, length}
use Rattle.b3_files.proofs.input.InputFile.move_on.Given as goal

abbrev pub invariant-loop-round : goal.invariant-loop-round
invariant-loop-round g l = record { buffer : length l.buffer ≡ length l.fn.buffer }
