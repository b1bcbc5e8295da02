use Rattle.std.proofs.Common.{length, take, drop, IsTrue, ◌-◌, ◌≡◌, ◌≤◌}
use Rattle.b3_files.proofs.retrying.fill_at.Given as goal

-- what is filled are the bytes from the offset on
abbrev pub invariant-loop-filled : goal.invariant-loop-filled
invariant-loop-filled g l = record {
  within : l.filled ≤ length l.buffer;
  buffer : length l.buffer ≡ length l.fn.buffer;
  bytes : IsTrue g.F.Stream.tells → take l.filled l.buffer ≡ take l.filled (drop l.offset (g.F.Stream.content l.file));
}

abbrev pub decreases-loop-filled : goal.decreases-loop-filled
decreases-loop-filled g l = length l.initial.buffer - l.filled
