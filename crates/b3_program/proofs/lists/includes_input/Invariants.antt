use Rattle.std.proofs.Common.{◌≡◌, length}
use Rattle.std.specs.List.{list_any}
use Rattle.b3_io.specs.Operands.{operands_left}
use Rattle.b3_program.specs.Lists.{is_input_operand}
use Rattle.b3_program.proofs.lists.includes_input.Given as goal

-- none so far is standard input
abbrev pub invariant-loop-operand : goal.invariant-loop-operand
invariant-loop-operand l =
    list_any is_input_operand (operands_left l.fn.operands) ≡ list_any is_input_operand (operands_left l.operands)

abbrev pub decreases-loop-operand : goal.decreases-loop-operand
decreases-loop-operand l = length (operands_left l.operands)
