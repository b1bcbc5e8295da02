use Rattle.b3_program.proofs.usage.Usage.text.Goals as goal

pub returns-in-RawOne : goal.returns-in-RawOne
returns-in-RawOne c = cc
