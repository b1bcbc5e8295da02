-- The tasks of a sum: together they have its script.
use Rattle.std.proofs.Common.{◌≡◌, ℕ, ◌&&◌, true, false, if◌then◌else◌, List, [], ◌∷◌, map, codes, refl}
use Rattle.b3_io.specs.declared.output_range.OutputRange.{OutputRange}
use Rattle.b3_io.specs.declared.options.Form.{Form}
use Rattle.b3_io.specs.Digests.{digest_script}
use Rattle.b3_io.specs.Operands.{Operand}
use Rattle.b3_io.specs.Operands.Operand.{Text, NotText}
use Rattle.b3_io.specs.Scripts.{followed_by}
use Rattle.b3_io.specs.Scripts.Script.{Done, Say}
use Rattle.b3_io.specs.Sums.{failed_report, is_bad_name, name_report, name_script, names_script, operand_script, shows_name}
use Rattle.b3_io.specs.Tasks.{name_task, operand_task, task_script, tasks_script}
use Rattle.b3_io.specs.Tasks.Task.{Tell, Find}

-- the tasks of operands have their scripts
task_script-name : (range : OutputRange) (form : Form) (name : List ℕ)
    → task_script range (name_task form name) ≡ name_script form range name
task_script-name range form name =
    elim (shows_name form && is_bad_name name)
    as (λ bad. task_script range (if bad then Tell (failed_report name (codes "bad name")) else Find name
    (name_report form name))
    ≡ (if bad then Say (failed_report name (codes "bad name")) Done else digest_script range name
    (name_report form name)))
    [ true ↦ refl | false ↦ refl ]

task_script-operand : (range : OutputRange) (form : Form) (operand : Operand)
    → task_script range (operand_task form operand) ≡ operand_script form range operand
task_script-operand range form (Text name) = task_script-name range form name
task_script-operand range form (NotText list number) = refl

pub tasks_script-operands : (range : OutputRange) (form : Form) (operands : List Operand)
    → tasks_script range (map (operand_task form) operands) ≡ names_script form range operands
tasks_script-operands range form [] = refl
tasks_script-operands range form (operand ∷ operands) = λ i.
    followed_by (task_script-operand range form operand i) (tasks_script-operands range form operands i)
