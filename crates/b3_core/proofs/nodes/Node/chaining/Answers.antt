use Rattle.b3_core.proofs.nodes.Node.chaining.Goals as goal

pub returns : goal.returns
returns c = cc
