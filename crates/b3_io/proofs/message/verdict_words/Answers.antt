use Rattle.b3_io.proofs.message.verdict_words.Goals as goal

pub returns-in-Missing : goal.returns-in-Missing
returns-in-Missing c = cc
