-- Why a job is not done over the names in a list.
use Rattle.std.specs.Prelude.{◌&&◌, ℕ, Bool, false, true, if◌then◌else◌, List, Option, None, Some, bytes_eq, length, nat_lt}
use Rattle.std.specs.List.{list_any}
use Rattle.b3_io.specs.Contents.{input_name}
use Rattle.b3_io.specs.Operands.{Operand}
use Rattle.b3_io.specs.Operands.Operand.{Text, NotText}
use Rattle.b3_io.specs.declared.options.Form.{Form}
use Rattle.b3_io.specs.declared.options.Form.TheVariants.{Named, Bare, Raw, Tagged}
use Rattle.b3_io.specs.declared.options.KeyChoice.{KeyChoice}
use Rattle.b3_io.specs.declared.options.KeyChoice.TheVariants.{Plain, Keyed, Derive}
use Rattle.b3_program.specs.Usages.{usage_text}
use Rattle.b3_program.specs.declared.task.Job.{Job}
use Rattle.b3_program.specs.declared.task.Job.TheVariants.{Sum, Check}
use Rattle.b3_program.specs.declared.usage.Usage.TheVariants.{KeyNeedsFiles, RawOne}

abbrev pub is_raw : Form → Bool
is_raw Named = false
is_raw Bare = false
is_raw Raw = true
is_raw Tagged = false

abbrev pub is_keyed : KeyChoice → Bool
is_keyed Plain = false
is_keyed Keyed = true
is_keyed (Derive context) = false

-- whether an operand is standard input
abbrev pub is_input_operand : Operand → Bool
is_input_operand (Text name) = bytes_eq name input_name
is_input_operand (NotText list number) = false

-- what is said of the first refusal that holds of a job over the operands in a list: the rules on files are on these,
-- too
abbrev pub refusal_over : Job → List Operand → Option (List ℕ)
refusal_over (Sum options) operands =
    if is_raw options.form && nat_lt 1 (length operands) then Some (usage_text RawOne)
    else if is_keyed options.key && list_any is_input_operand operands then Some (usage_text KeyNeedsFiles)
    else None
refusal_over (Check options) operands = None
