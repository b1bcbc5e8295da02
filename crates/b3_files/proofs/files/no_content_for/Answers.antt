use Rattle.std.proofs.Common.{rules}
use Rattle.b3_files.proofs.files.no_content_for.Goals as goal

pub returns-in-NotFound : goal.returns-in-NotFound
returns-in-NotFound c = search rules
