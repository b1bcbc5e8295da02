use Rattle.std.proofs.Common.{inr, rules}
use Rattle.b3_call.proofs.call.run_call.Goals as goal

pub returns-in-Ok : goal.returns-in-Ok
returns-in-Ok g c =
    inr (record { words = c.in-Ok.words; are_given = c.in-Ok.ensures.words; ends = c.run_words.ensures.ends })

pub returns-in-Err : goal.returns-in-Err
returns-in-Err g c = search rules
