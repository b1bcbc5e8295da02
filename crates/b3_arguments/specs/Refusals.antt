-- Why the words of a call are not taken.
use Rattle.std.specs.Prelude.{◌≡◌, ◌≢◌, ◌⊎◌, ◌<◌, ◌^◌, ⊤, List, length}
use Rattle.clap.specs.Faults.{fault_of}
use Rattle.clap.specs.Kinds.{IsAmong}
use Rattle.clap.specs.Walk.{Text}
use Rattle.clap.specs.declared.error.kind.ErrorKind.{ErrorKind}
use Rattle.clap.specs.declared.error.kind.ErrorKind.TheVariants.{DisplayHelp, DisplayVersion, OutOfMemory}
use Rattle.b3_program.specs.declared.stop.Stop.{Stop}
use Rattle.b3_program.specs.declared.stop.Stop.TheVariants.{NotText, Memory, TooManyFiles, Refused, Asked}
use Rattle.b3_arguments.specs.Options.{options}
use Rattle.b3_arguments.specs.Readings.{files_in, rows_for}

-- the help or the version
abbrev pub IsAskedFor : ErrorKind → Type 0
IsAskedFor kind = (kind ≡ DisplayHelp) ⊎ (kind ≡ DisplayVersion)

-- why `clap` gives no matches, by the kind of its error; where there is no memory for its text, that is the stop
abbrev pub IsStopFor : ErrorKind → Stop → Type 0
IsStopFor kind Memory = ⊤
IsStopFor kind NotText = ⊥
IsStopFor kind TooManyFiles = ⊥
IsStopFor kind (Refused text) = (kind ≢ OutOfMemory) × ¬ IsAskedFor kind
IsStopFor kind (Asked text) = IsAskedFor kind

-- why these words are not taken: a growth was refused, or they name too many files, or `clap` finds that fault in them
abbrev pub IsStopOver : List Text → Stop → Type 0
IsStopOver given Memory = ⊤
IsStopOver given NotText = ⊥
IsStopOver given TooManyFiles = 2 ^ 30 < length (files_in (rows_for given))
IsStopOver given (Refused text) = (kind : ErrorKind) × IsAmong kind (fault_of options given) × ¬ IsAskedFor kind
IsStopOver given (Asked text) = (kind : ErrorKind) × IsAmong kind (fault_of options given) × IsAskedFor kind
