-- What the words of a call ask for.
use Rattle.std.specs.Prelude.{ℕ, min, ◌==◌, ◌^◌, if◌then◌else◌, Option, None, Some, unwrap_or}
use Rattle.std.specs.Option.{option_map_or}
use Rattle.b3_io.specs.declared.options.CheckOptions.{CheckOptions}
use Rattle.b3_io.specs.declared.options.Form.{Form}
use Rattle.b3_io.specs.declared.options.Form.TheVariants.{Named, Bare, Raw, Tagged}
use Rattle.b3_io.specs.declared.options.KeyChoice.{KeyChoice}
use Rattle.b3_io.specs.declared.options.KeyChoice.TheVariants.{Plain, Keyed, Derive}
use Rattle.b3_io.specs.declared.options.Limits.{Limits}
use Rattle.b3_io.specs.declared.options.SumOptions.{SumOptions}
use Rattle.b3_io.specs.Options.{check_limits, limits_of}
use Rattle.b3_program.specs.declared.task.Job.{Job}
use Rattle.b3_program.specs.declared.task.Job.TheVariants.{Sum, Check}
use Rattle.b3_program.specs.declared.task.Names.{Names}
use Rattle.b3_program.specs.declared.task.Names.TheVariants.{Files, InList}
use Rattle.b3_program.specs.declared.task.Task.{Task}
use Rattle.b3_program.specs.declared.words.Words.{Words}

abbrev pub key_of : Words → KeyChoice
key_of words = if words.keyed then Keyed else option_map_or Derive words.derive_key Plain

-- raw output has no names in any case
abbrev pub form_of : Words → Form
form_of words =
    if words.raw then Raw
    else if words.no_names then Bare
    else if words.tag then Tagged
    else Named

-- 4 where no number is given, and at 0; 64 above that
abbrev pub workers_of : Option ℕ → ℕ
workers_of None = 4
workers_of (Some n) = if n == 0 then 4 else min n 64

abbrev pub sum_options : Words → SumOptions
sum_options words = record {
  key = key_of words;
  seek = unwrap_or words.seek 0;
  length = unwrap_or words.length 32;
  form = form_of words;
  workers = workers_of words.num_threads;
  turns = 2 ^ 40;
  largest = 2 ^ 30;
}

abbrev pub check_options : Words → CheckOptions
check_options words = record {
  quiet = words.quiet;
  ignore_missing = words.ignore_missing;
  status = words.status;
  strict = words.strict;
  warn = words.warn;
  workers = workers_of words.num_threads;
  turns = 2 ^ 40;
  largest = 2 ^ 30;
}

abbrev pub job_for : Words → Job
job_for words = if words.check then Check (check_options words) else Sum (sum_options words)

-- the files, or the list in which their names are
abbrev pub names_for : Words → Names
names_for words = option_map_or InList words.files0_from (Files words.files)

-- the task of words that are not refused
abbrev pub task_for : Words → Task
task_for words = record { job = job_for words; names = names_for words }

-- how much of a file a job reads
abbrev pub limits_for : Job → Limits
limits_for (Sum options) = limits_of options
limits_for (Check options) = check_limits options
