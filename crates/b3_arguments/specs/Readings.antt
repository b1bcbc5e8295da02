-- What the words of a call say, where `clap` takes them.
use Rattle.std.specs.Prelude.{◌≡◌, ◌<◌, ◌^◌, ℕ, Bool, true, false, List, [], Option, None, Some, codes, map, min, option_map, string_bytes, unwrap_or}
use Rattle.std.specs.Option.{SomeIff}
use Rattle.std.specs.Str.Parse.{IsNumeral, digits_value, without_leading_plus}
use Rattle.clap.specs.Faults.{fault_of}
use Rattle.clap.specs.Simple.{matches_of}
use Rattle.clap.specs.Walk.{Row, Text, all_of, first_of, one_of}
use Rattle.b3_io.specs.Options.{max_output_len}
use Rattle.b3_program.specs.declared.words.Words.{Words}
use Rattle.b3_arguments.specs.Options.{options}

-- the values of each option, of words of which the first is the program's own name
abbrev pub rows_for : List Text → List Row
rows_for given = matches_of options given

abbrev pub files_in : List Row → List Text
files_in rows = unwrap_or (all_of (codes "FILE") rows) []

-- whether a flag was given, by its value
abbrev pub IsFlag : Option Text → Bool → Type 0
IsFlag None set = set ≡ false
IsFlag (Some value) set = (value ≡ codes "true" → set ≡ true) × (value ≡ codes "false" → set ≡ false)

-- the number below 2 ^ bits that a value writes in decimal digits
abbrev pub IsNumber : ℕ → Option Text → Option ℕ → Type 0
IsNumber bits None number = number ≡ None
IsNumber bits (Some value) number =
    let digits = without_leading_plus value in
    SomeIff number (IsNumeral 10 digits × (digits_value 10 digits < 2 ^ bits)) (digits_value 10 digits)

-- the same, but no more than the most
abbrev pub IsNumberUpTo : ℕ → ℕ → Option Text → Option ℕ → Type 0
IsNumberUpTo most bits value number =
    (written : Option ℕ) × IsNumber bits value written × (number ≡ option_map (λ n. min n most) written)

-- the words say what the values say
pub record AreOf (rows : List Row) (words : Words) : Type 0 where
  pub check : IsFlag (one_of (codes "check") rows) words.check
  pub keyed : IsFlag (one_of (codes "keyed") rows) words.keyed
  pub derive_key : option_map string_bytes words.derive_key ≡ first_of (codes "derive-key") rows
  pub length : IsNumberUpTo max_output_len 32 (one_of (codes "length") rows) words.length
  pub seek : IsNumber 64 (one_of (codes "seek") rows) words.seek
  pub raw : IsFlag (one_of (codes "raw") rows) words.raw
  pub no_names : IsFlag (one_of (codes "no-names") rows) words.no_names
  pub tag : IsFlag (one_of (codes "tag") rows) words.tag
  pub quiet : IsFlag (one_of (codes "quiet") rows) words.quiet
  pub ignore_missing : IsFlag (one_of (codes "ignore-missing") rows) words.ignore_missing
  pub status : IsFlag (one_of (codes "status") rows) words.status
  pub strict : IsFlag (one_of (codes "strict") rows) words.strict
  pub warn : IsFlag (one_of (codes "warn") rows) words.warn
  pub num_threads : IsNumber 16 (one_of (codes "num-threads") rows) words.num_threads
  pub files0_from : option_map string_bytes words.files0_from ≡ first_of (codes "files0-from") rows
  pub progress : IsFlag (one_of (codes "progress") rows) words.progress
  pub files : map string_bytes words.files.items ≡ files_in rows

-- `clap` finds no fault in what was given, and the words are what it reads there
abbrev pub AreFrom : List Text → Words → Type 0
AreFrom given words = (fault_of options given ≡ []) × AreOf (rows_for given) words
