use Rattle.b3_hash.proofs.derivation.derive_mode.Goals as goal

pub returns : goal.returns
returns c = cc
