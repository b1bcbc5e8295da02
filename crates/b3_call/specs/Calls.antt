-- What a call of the program does, from its arguments on.
use Rattle.std.specs.Prelude.{◌≡◌, ◌⊎◌, ℕ, false, List, Option, Result, Ok, Err, String, Vec, map, string_bytes}
use Rattle.std.specs.declared.io.Error.{Error}
use Rattle.b3_io.specs.Contents.{Contents}
use Rattle.b3_io.specs.Runs.{IoState}
use Rattle.b3_program.specs.Stops.{EndsBy, IsStopForInput}
use Rattle.b3_program.specs.declared.stop.Stop.{Stop}
use Rattle.b3_program.specs.declared.words.Words.{Words}
use Rattle.b3_arguments.specs.Readings.{AreFrom}
use Rattle.b3_arguments.specs.Refusals.{IsStopOver}
use Rattle.b3_call.specs.Programs.{Ends}

-- what the call was given: the texts of its arguments, or why there are none
abbrev pub texts_in : {Y Z : Type 0} → Result (Vec (String Y) Z) Error → Result (List (List ℕ)) Error
texts_in (Ok arguments) = Ok (map string_bytes arguments.items)
texts_in (Err error) = Err error

-- why a call reads nothing
abbrev pub IsStopOf : Result (List (List ℕ)) Error → Stop → Type 0
IsStopOf (Ok texts) stop = IsStopOver texts stop
IsStopOf (Err error) stop = IsStopForInput error stop

-- the words of a call that has a run
abbrev pub AreWordsOf : Result (List (List ℕ)) Error → Words → Type 0
AreWordsOf (Ok texts) words = AreFrom texts words
AreWordsOf (Err error) words = ⊥

-- the call stops before it reads anything
pub record EndsEarly (given : Result (List (List ℕ)) Error) (before after : IoState) (status : ℕ) : Type 0 where
  pub stop : Stop
  pub why : IsStopOf given stop
  pub kept : (after.told ≡ before.told) × (after.sure ≡ before.sure) × (after.failures ≡ before.failures)
  pub said : EndsBy stop before.out before.err after.out after.err status

-- what the words that were given ask for is done
pub record EndsByWords (given : Result (List (List ℕ)) Error) (before after : IoState) (status : ℕ) : Type 0 where
  pub words : Words
  pub are_given : AreWordsOf given words
  pub ends : Ends words before after status

abbrev pub EndsCall : Result (List (List ℕ)) Error → IoState → IoState → ℕ → Type 0
EndsCall given before after status =
    EndsEarly given before after status ⊎ EndsByWords given before after status

-- the state of a shelf and two outputs that have not failed
abbrev pub fresh : Option Contents → Option (List ℕ) → Option (List ℕ) → IoState
fresh told out err = record {
  told = told;
  sure = false;
  failures = 0;
  out = record { failures = 0; held = out };
  err = record { failures = 0; held = err };
}

-- the call over a shelf that tells this, and over these outputs: what they hold afterwards, and the status
pub record CallsWith (given : Result (List (List ℕ)) Error) (told : Option Contents)
    (out err out_after err_after : Option (List ℕ)) (status : ℕ) : Type 0 where
  pub after : IoState
  pub ends : EndsCall given (fresh told out err) after status
  pub out_is : after.out.held ≡ out_after
  pub err_is : after.err.held ≡ err_after
