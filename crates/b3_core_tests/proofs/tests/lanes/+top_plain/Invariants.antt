use Rattle.std.proofs.Common.{length}
use Rattle.b3_core_tests.proofs.tests.lanes.+top_plain.Given as goal

abbrev pub decreases-top_plain : goal.decreases-top_plain
decreases-top_plain l = length l.bytes.now
