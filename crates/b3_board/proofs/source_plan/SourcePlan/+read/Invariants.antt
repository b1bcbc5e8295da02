use Rattle.b3_board.proofs.source_plan.SourcePlan.+read.Given as goal

abbrev pub decreases-read : goal.decreases-read
decreases-read g l = l.span.count
