use Rattle.std.proofs.Common.{string_bytes}
use Rattle.b3_io.proofs.OperandLemmas.{left_given}
use Rattle.b3_io.proofs.operands.Operands.given.Goals as goal

pub returns : goal.returns
returns c = left_given string_bytes c.args.names.now
