use Rattle.std.proofs.Common.{arith, rules}
use Rattle.b3_board.proofs.board.Board.audit.Goals as goal

pub invariant_of-self : goal.invariant_of-self
invariant_of-self g c = search rules

pub returns-clause-all : goal.returns-clause-all
returns-clause-all g c = omega arith

pub returns-clause-board : goal.returns-clause-board
returns-clause-board g c = cc

pub returns-clause-share : goal.returns-clause-share
returns-clause-share g c = cc
