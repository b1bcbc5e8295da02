use Rattle.std.proofs.Common.{rules}
use Rattle.b3_crew.proofs.entry.Entry.put.Goals as goal

pub new-requires : goal.new-requires
new-requires g c = search rules
