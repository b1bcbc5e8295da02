use Rattle.std.proofs.Common.{◌+◌, ◌*◌, length}
use Rattle.b3_threads.proofs.threads.+chain.Given as goal

abbrev pub decreases-all_from : goal.decreases-all_from
decreases-all_from g l = 3 * length l.s.now

abbrev pub decreases-one_beside_rest : goal.decreases-one_beside_rest
decreases-one_beside_rest g l = 3 * length l.rest.now + 2

abbrev pub decreases-one_beside_rest-others : goal.decreases-one_beside_rest-others
decreases-one_beside_rest-others g l = 3 * length l.rest.now + 1
