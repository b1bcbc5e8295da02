use Rattle.std.proofs.Common.{rules}
use Rattle.b3_crew.proofs.name_hasher.NameHasher.output_of.Goals as goal

pub returns : goal.returns
returns g c = search rules
