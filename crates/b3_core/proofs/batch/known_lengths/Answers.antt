use Rattle.std.proofs.Common.{◌≡◌, [], length, get_or}
use Rattle.b3_core.proofs.Lists.{below_eight}
use Rattle.b3_core.proofs.batch.known_lengths.Goals as goal

pub returns : goal.returns
returns g c =
    below_eight (λ j. length (get_or c.args.lists.now j []) ≡ g.row.N)
    c.known_length.ensures c.known_length-2.ensures c.known_length-3.ensures c.known_length-4.ensures
    c.known_length-5.ensures c.known_length-6.ensures c.known_length-7.ensures c.known_length-8.ensures
