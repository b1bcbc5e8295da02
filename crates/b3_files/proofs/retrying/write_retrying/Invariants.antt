use Rattle.std.specs.Io.KnownBytes.{Keeps}
use Rattle.b3_files.proofs.retrying.write_retrying.Given as goal

-- each write so far was interrupted, and took nothing
abbrev pub invariant-loop-try : goal.invariant-loop-try
invariant-loop-try g l = Keeps (g.W.Write.contents l.fn.writer) (g.W.Write.contents l.writer)
