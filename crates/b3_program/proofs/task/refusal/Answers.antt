use Rattle.std.proofs.Common.{rules}
use Rattle.b3_program.proofs.task.refusal.Goals as goal

pub returns-then-not-words : goal.returns-then-not-words
returns-then-not-words c = search rules

pub returns-then-reads_input : goal.returns-then-reads_input
returns-then-reads_input c = search rules

pub returns : goal.returns
returns c = search rules
