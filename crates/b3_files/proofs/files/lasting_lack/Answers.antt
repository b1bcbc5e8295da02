use Rattle.std.proofs.Common.{rules}
use Rattle.b3_files.proofs.files.lasting_lack.Goals as goal

pub returns-in_default : goal.returns-in_default
returns-in_default c = search rules
