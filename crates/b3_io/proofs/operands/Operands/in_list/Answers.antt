use Rattle.std.proofs.Common.{arith}
use Rattle.b3_lines.specs.Lines.{pieces_of}
use Rattle.b3_lines.proofs.Pieces.{length-pieces_of}
use Rattle.b3_io.proofs.OperandLemmas.{length-operands_from}
use Rattle.b3_io.proofs.operands.Operands.in_list.Goals as goal

pub returns-clause-few : goal.returns-clause-few
returns-clause-few c =
    let content = c.args.content.now in
    omega (arith, length-operands_from c.args.list.now 1 (pieces_of 0 content), length-pieces_of 0 content)
