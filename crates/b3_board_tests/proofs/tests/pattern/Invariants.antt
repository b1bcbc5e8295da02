use Rattle.std.proofs.Common.{◌≡◌, vec_len}
use Rattle.b3_board_tests.proofs.tests.pattern.Given as goal

abbrev pub invariant-loop-i : goal.invariant-loop-i
invariant-loop-i g l = vec_len l.bytes ≡ l.i
