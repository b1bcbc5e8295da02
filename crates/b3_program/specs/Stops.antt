-- How a call ends that reads nothing.
use Rattle.std.specs.Prelude.{◌≡◌, ◌≢◌, ℕ, List, ◌++◌, Bool, true, false, codes, string_bytes}
use Rattle.std.specs.IoError.{error_kind}
use Rattle.std.specs.declared.io.Error.{Error}
use Rattle.std.specs.declared.io.ErrorKind.TheVariants.{InvalidData}
use Rattle.b3_io.specs.Faults.{fault_text, prefix}
use Rattle.b3_io.specs.Runs.{SinkState}
use Rattle.b3_io.specs.declared.fault.RunFault.TheVariants as RunFault
use Rattle.b3_program.specs.Said.{IsSaid, line_of}
use Rattle.b3_program.specs.declared.stop.Stop.{Stop}
use Rattle.b3_program.specs.declared.stop.Stop.TheVariants.{NotText, Memory, TooManyFiles, Refused, Asked}

-- a text is said on the error output alone, and this is the status
pub record Complains (text : List ℕ) (code : ℕ) (out err out_after err_after : SinkState) (status : ℕ) : Type 0 where
  pub whole : Bool
  pub said : IsSaid err err_after text whole
  pub out_kept : out_after ≡ out
  pub status_is : status ≡ code

-- a text is written on the output alone, with status 0; where that fails it is a run fault
pub record Replies (text : List ℕ) (out err out_after err_after : SinkState) (status : ℕ) : Type 0 where
  pub whole : Bool
  pub written : IsSaid out out_after text whole
  pub all : whole ≡ true → (err_after ≡ err) × (status ≡ 0)
  pub failed : whole ≡ false
      → Complains (line_of (fault_text RunFault.WriteFault)) 1 out_after err out_after err_after status

-- which text is said where, and the status
abbrev pub EndsBy : Stop → SinkState → SinkState → SinkState → SinkState → ℕ → Type 0
EndsBy NotText = Complains (line_of (prefix ++ codes "an argument is not text")) 2
EndsBy TooManyFiles = Complains (line_of (prefix ++ codes "too many files")) 2
EndsBy Memory = Complains (line_of (fault_text RunFault.Memory)) 1
EndsBy (Refused text) = Complains (string_bytes text) 2
EndsBy (Asked text) = Replies (string_bytes text)

-- why there are no arguments: one is not text, or a growth was refused
pub record IsStopForInput (error : Error) (stop : Stop) : Type 0 where
  pub not_text : error_kind error ≡ InvalidData → stop ≡ NotText
  pub memory : error_kind error ≢ InvalidData → stop ≡ Memory
