use Rattle.b3_core.proofs.lane_trees.+eight_subtrees.Given as goal

abbrev pub decreases-eight_subtrees : goal.decreases-eight_subtrees
decreases-eight_subtrees l = l.level
