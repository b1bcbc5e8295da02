use Rattle.b3_hash.proofs.hashes.hash.Goals as goal

pub returns : goal.returns
returns c = cc
