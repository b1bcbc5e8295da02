use Rattle.std.proofs.Common.{rules}
use Rattle.b3_files.proofs.counting_shelf.CountingShelfShelf.lacks.Goals as goal

pub returns-in-Some : goal.returns-in-Some
returns-in-Some g c = search rules

pub returns-else-is_shown : goal.returns-else-is_shown
returns-else-is_shown g c = search rules
