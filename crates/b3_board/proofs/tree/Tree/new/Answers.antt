use Rattle.b3_board.proofs.tree.Tree.new.Goals as goal

pub returns-clause-input : goal.returns-clause-input
returns-clause-input c = cc
