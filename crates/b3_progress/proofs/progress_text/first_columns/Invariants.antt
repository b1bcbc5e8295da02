use Rattle.std.proofs.Common.{◌≤◌, string_bytes}
use Rattle.b3_progress.specs.Columns.{columns_of}
use Rattle.b3_progress.proofs.progress_text.first_columns.Given as goal

-- what there is so far fits
abbrev pub invariant-loop-character : goal.invariant-loop-character
invariant-loop-character l = columns_of (string_bytes l.front) ≤ 79
