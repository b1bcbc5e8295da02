-- What the getters of `clap` read, by the values of each option; and why there is no reading.
use Rattle.std.proofs.Common.{◌≡◌, ◌⊎◌, ◌<◌, ◌^◌, ℕ, Bool, true, false, List, length, Option, None, Some, Result, codes, refl, sym, ap, subst, inl, inr}
use Rattle.std.specs.Str.Parse.{ExplainsUnsignedError, HasUnsignedDigitsIfOk, ParsesUnsigned}
use Rattle.std.specs.declared.num.ParseIntError.{ParseIntError}
use Rattle.clap.proofs.WalkLemmas.{one_text-rows}
use Rattle.clap.specs.Faults.{fault_of}
use Rattle.clap.specs.Kinds.{HasKind}
use Rattle.clap.specs.Matches.{ReadsOne, one_text}
use Rattle.clap.specs.Values.{kind_of}
use Rattle.clap.specs.Walk.{Row, Text, one_of, rows_of}
use Rattle.clap.specs.declared.error.Error.{Error}
use Rattle.clap.specs.declared.parser.matches.Found.{Found}
use Rattle.b3_program.specs.declared.stop.Stop.{Stop}
use Rattle.b3_program.specs.declared.stop.Stop.TheVariants.{NotText, Memory, TooManyFiles, Refused, Asked}
use Rattle.b3_arguments.specs.Options.{options}
use Rattle.b3_arguments.specs.Readings.{IsFlag, IsNumber, files_in, rows_for}
use Rattle.b3_arguments.specs.Refusals.{IsStopFor, IsStopOver}

pub flag_read : (found : Found) (id : Text) (set : Bool) → (one_text found id ≡ None → set ≡ false)
    → (one_text found id ≡ Some (codes "true") → set ≡ true) → (one_text found id ≡ Some (codes "false") → set ≡ false)
    → IsFlag (one_of id (rows_of found)) set
flag_read found id set none set_by kept_by =
    subst (λ value. IsFlag value set) (one_text-rows found id) (by_value (one_text found id) none set_by kept_by)
  where
    by_value : (value : Option Text) → (value ≡ None → set ≡ false) → (value ≡ Some (codes "true") → set ≡ true)
        → (value ≡ Some (codes "false") → set ≡ false) → IsFlag value set
    by_value None none set_by kept_by = none refl
    by_value (Some text) none set_by kept_by = (λ same. set_by (ap Some same), λ same. kept_by (ap Some same))

-- what `from_str` gives at the type of these bits
abbrev Gives : ℕ → List ℕ → Result ℕ ParseIntError → Type 0
Gives bits text read =
    ParsesUnsigned bits 10 text read × ExplainsUnsignedError 10 text read × HasUnsignedDigitsIfOk text read

pub number_read : (found : Found) (id : Text) (bits : ℕ) (number : Option ℕ)
    → (one_text found id ≡ None → number ≡ None)
    → ((text : Text) → one_text found id ≡ Some text → ReadsOne (Gives bits) text number)
    → IsNumber bits (one_of id (rows_of found)) number
number_read found id bits number none some =
    subst (λ value. IsNumber bits value number) (one_text-rows found id) (by_value (one_text found id) none some)
  where
    by_number : (text : Text) (read : Option ℕ) → ReadsOne (Gives bits) text read → IsNumber bits (Some text) read
    by_number text (Some n) gave = gave.0
    by_number text None gave = gave.1.0

    by_value : (value : Option Text) → (value ≡ None → number ≡ None)
        → ((text : Text) → value ≡ Some text → ReadsOne (Gives bits) text number) → IsNumber bits value number
    by_value None none some = none refl
    by_value (Some text) none some = by_number text number (some text refl)

-- the stop that `clap`'s error makes is one of the faults that it finds
pub stop_of_fault : (given : List Text) (error : Error) (stop : Stop) → HasKind (fault_of options given) error
    → IsStopFor (kind_of error) stop → IsStopOver given stop
stop_of_fault given error Memory kind why = tt
stop_of_fault given error NotText kind why = absurd why
stop_of_fault given error TooManyFiles kind why = absurd why
stop_of_fault given error (Refused text) (inl memory) why = absurd (why.0 memory)
stop_of_fault given error (Refused text) (inr among) why = (kind_of error, among, why.1)
stop_of_fault given error (Asked text) (inl memory) (inl help) = cc
stop_of_fault given error (Asked text) (inl memory) (inr version) = cc
stop_of_fault given error (Asked text) (inr among) why = (kind_of error, among, why)

-- so are want of memory, and too many files
pub stop_of_files : (given : List Text) (rows : List Row) (stop : Stop) → rows ≡ rows_for given
    → (stop ≡ Memory) ⊎ ((stop ≡ TooManyFiles) × (2 ^ 30 < length (files_in rows))) → IsStopOver given stop
stop_of_files given rows stop read (inl memory) = subst (IsStopOver given) (sym memory) tt
stop_of_files given rows stop read (inr many) =
    subst (IsStopOver given) (sym many.0) (subst (λ rows. 2 ^ 30 < length (files_in rows)) read many.1)
