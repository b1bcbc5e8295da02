use Rattle.b3_board.specs.Spans.{in_memory}
use Rattle.b3_board.proofs.parallel.hash_parallel.Given as goal

abbrev pub ghosts-hash_parallel_on-L-InputLedger : goal.ghosts-hash_parallel_on-L-InputLedger
ghosts-hash_parallel_on-L-InputLedger g a = record {
  input = in_memory a.plan.now.input;
  mode = a.plan.now.mode;
  first = a.plan.now.first;
}

abbrev pub ghosts-hash_parallel_on-L-Ledger : goal.ghosts-hash_parallel_on-L-Ledger
ghosts-hash_parallel_on-L-Ledger g a = record { name = a.blank.name; parts = a.blank.parts }
