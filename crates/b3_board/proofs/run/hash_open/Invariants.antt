use Rattle.std.proofs.Common.{◌≡◌, ◌≤◌, length}
use Rattle.b3_board.proofs.run.hash_open.Given as goal

abbrev pub invariant-spans : goal.invariant-spans
invariant-spans g l = record {
  parts : l.share.parts ≡ l.fn.share.parts;
  grown : l.fn.share.chunks ≤ l.share.chunks;
}

abbrev pub decreases-spans : goal.decreases-spans
decreases-spans g l = length l.board.open_spans
