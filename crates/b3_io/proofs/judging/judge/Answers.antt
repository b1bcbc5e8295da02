use Rattle.std.proofs.Common.{rules}
use Rattle.b3_io.proofs.judging.judge.Goals as goal

pub returns-in-Digest-clause-verdict : goal.returns-in-Digest-clause-verdict
returns-in-Digest-clause-verdict c = search rules

pub returns-in-Digest-clause-good : goal.returns-in-Digest-clause-good
returns-in-Digest-clause-good c = search rules

pub returns-in-Missing-clause-good : goal.returns-in-Missing-clause-good
returns-in-Missing-clause-good c = search rules
