use Rattle.b3_io.proofs.message.unless_silent.Goals as goal

pub returns : goal.returns
returns c = cc
