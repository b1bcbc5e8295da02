use Rattle.b3_hash.proofs.hasher.Hasher.copied.Goals as goal

pub returns : goal.returns
returns c = cc
