use Rattle.b3_board.specs.Spans.{in_memory}
use Rattle.b3_board_tests.proofs.tests.memory.swept.Given as goal

abbrev pub ghosts-swept_on-L-InputLedger : goal.ghosts-swept_on-L-InputLedger
ghosts-swept_on-L-InputLedger g a = record { input = in_memory a.plan.now.input; mode = a.plan.now.mode; first = a.plan.now.first }

abbrev pub ghosts-swept_on-L-Ledger : goal.ghosts-swept_on-L-Ledger
ghosts-swept_on-L-Ledger g a = record { name = a.blank.name; parts = a.blank.parts }
