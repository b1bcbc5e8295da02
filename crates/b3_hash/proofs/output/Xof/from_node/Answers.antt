use Rattle.b3_hash.proofs.output.Xof.from_node.Goals as goal

pub returns : goal.returns
returns c = cc
