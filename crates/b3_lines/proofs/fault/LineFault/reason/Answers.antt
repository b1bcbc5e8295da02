use Rattle.b3_lines.proofs.fault.LineFault.reason.Goals as goal

pub returns-in-NotText : goal.returns-in-NotText
returns-in-NotText c = cc

pub returns-in-Short : goal.returns-in-Short
returns-in-Short c = cc
