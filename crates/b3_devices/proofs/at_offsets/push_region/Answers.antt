use Rattle.b3_devices.proofs.PartLemmas.{pushed}
use Rattle.b3_devices.proofs.at_offsets.push_region.Goals as goal

pub returns-clause-hashed : goal.returns-clause-hashed
returns-clause-hashed g c =
    let ok = rw c.unwrap.ensures at c.push_window.ensures.ok in
    let len = rw c.unwrap.ensures at c.push_window.ensures.len in
    pushed c.requires.hashed c.requires.part ok len c.push_window.ensures.mode
