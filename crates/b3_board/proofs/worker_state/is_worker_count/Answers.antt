use Rattle.std.proofs.Common.{rules}
use Rattle.b3_board.proofs.worker_state.is_worker_count.Goals as goal

pub returns-then-workers-gt0 : goal.returns-then-workers-gt0
returns-then-workers-gt0 c = search rules
