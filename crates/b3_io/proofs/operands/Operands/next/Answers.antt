use Rattle.std.proofs.Common.{string_bytes}
use Rattle.b3_lines.specs.Lines.{pieces_of}
use Rattle.b3_io.proofs.OperandLemmas.{first_not_text, first_text, left_first}
use Rattle.b3_io.proofs.operands.Operands.next.Goals as goal

pub returns-in-Ok-clause-next : goal.returns-in-Ok-clause-next
returns-in-Ok-clause-next c =
    let operands = c.args.self.now in
    let text = c.in-Ok.ensures.cases in
    left_first string_bytes operands.given.now _ _ _ c.in_default.ensures.cases
    (first_text operands.list.now operands.number (pieces_of 0 operands.text.now)
    (pieces_of 0 c.in_ok-piece.rest.now) c.in_ok-piece.piece.now c.in-Ok.name.now c.in_ok-piece.ensures.first
    text.0 text.1)

pub returns-in-Err-clause-next : goal.returns-in-Err-clause-next
returns-in-Err-clause-next c =
    let operands = c.args.self.now in
    left_first string_bytes operands.given.now _ _ _ c.in_default.ensures.cases
    (first_not_text operands.list.now operands.number (pieces_of 0 operands.text.now)
    (pieces_of 0 c.in_ok-piece.rest.now) c.in_ok-piece.piece.now c.in_ok-piece.ensures.first
    c.in-Err.ensures.cases.0)
