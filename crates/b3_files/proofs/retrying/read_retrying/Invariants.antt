use Rattle.std.proofs.Common.{◌≡◌, length, IsTrue}
use Rattle.b3_files.proofs.retrying.read_retrying.Given as goal

-- each read so far was interrupted, and gave nothing
abbrev pub invariant-loop-try : goal.invariant-loop-try
invariant-loop-try g l =
    record {
      buffer : length l.buffer ≡ length l.fn.buffer;
      position : IsTrue g.S.Stream.tells → g.S.Stream.position l.stream ≡ g.S.Stream.position l.fn.stream;
      content : IsTrue g.S.Stream.tells → g.S.Stream.content l.stream ≡ g.S.Stream.content l.fn.stream;
    }
