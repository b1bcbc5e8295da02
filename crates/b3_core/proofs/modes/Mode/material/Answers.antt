use Rattle.b3_core.proofs.modes.Mode.material.Goals as goal

pub returns : goal.returns
returns c = cc
