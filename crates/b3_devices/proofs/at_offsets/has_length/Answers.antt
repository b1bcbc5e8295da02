use Rattle.std.proofs.Common.{◌≡◌, length, take, rules}
use Rattle.b3_devices.proofs.PartLemmas.{one_of_two}
use Rattle.b3_devices.proofs.at_offsets.has_length.Goals as goal

pub returns : goal.returns
returns g c = λ is_one is_told.
    let buffer = c.read_at.new._buffer in
    let one : length (take c.in-Some.count buffer) ≡ 1 = search rules in
    one_of_two c.args.len (g.S.Shelf.left c.args.shelf.now) (take c.in-Some.count buffer) c.requires one
    (c.in-Some.ensures.bytes is_told)
