use Rattle.std.proofs.Common.{rules}
use Rattle.b3_hash.proofs.output.Xof.fill.Goals as goal

pub returns-in_err-end-clause-unmoved : goal.returns-in_err-end-clause-unmoved
returns-in_err-end-clause-unmoved c = search rules

pub returns-in_err-end-clause-past_end : goal.returns-in_err-end-clause-past_end
returns-in_err-end-clause-past_end c = search rules

pub returns-clause-moved : goal.returns-clause-moved
returns-clause-moved c = search rules
