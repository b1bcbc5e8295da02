-- Which words of a call ask for nothing that can be done, and what is said of them: the first refusal that holds.
use Rattle.std.specs.Prelude.{ℕ, ◌+◌, ◌-◌, ◌^◌, List, [], ◌∷◌, ◌++◌, Bool, ◌&&◌, ◌||◌, ◌==◌, not, nat_lt, bytes_eq, Option, None, Some, is_some, unwrap_or, if◌then◌else◌, codes, String, string_bytes, vec_len}
use Rattle.std.specs.Global.{Global}
use Rattle.std.specs.List.{list_any}
use Rattle.std.specs.Option.{option_map, option_map_or}
use Rattle.b3_io.specs.Contents.{input_name}
use Rattle.b3_io.specs.Faults.{prefix}
use Rattle.b3_program.specs.declared.usage.Usage.{Usage}
use Rattle.b3_program.specs.declared.usage.Usage.TheVariants.{CheckExcludes, TwoKeys, QuietAlone, RawOne, KeyNeedsFiles, TagExcludes, SeekPastEnd, IgnoreMissingAlone, StatusAlone, StrictAlone, WarnAlone, ListTakesNoFile}
use Rattle.b3_program.specs.declared.words.Words.{Words}

-- what is said of an option that a check excludes, and of one that tagged lines exclude, without a line feed
abbrev pub check_excludes : List ℕ → List ℕ
check_excludes option = prefix ++ codes "--check cannot be used with " ++ option

abbrev pub tag_excludes : List ℕ → List ℕ
tag_excludes option = prefix ++ codes "--tag cannot be used with " ++ option

-- what is said of a refusal, without a line feed
abbrev pub usage_text : Usage → List ℕ
usage_text (CheckExcludes option) = check_excludes option.now
usage_text TwoKeys = prefix ++ codes "--keyed cannot be used with --derive-key"
usage_text QuietAlone = prefix ++ codes "--quiet needs --check"
usage_text RawOne = prefix ++ codes "--raw takes one input"
usage_text KeyNeedsFiles = prefix ++ codes "--keyed needs files"
usage_text (TagExcludes option) = tag_excludes option.now
usage_text SeekPastEnd = prefix ++ codes "--seek and --length pass the end of the output"
usage_text IgnoreMissingAlone = prefix ++ codes "--ignore-missing needs --check"
usage_text StatusAlone = prefix ++ codes "--status needs --check"
usage_text StrictAlone = prefix ++ codes "--strict needs --check"
usage_text WarnAlone = prefix ++ codes "--warn needs --check"
usage_text ListTakesNoFile = prefix ++ codes "--files0-from takes no FILE"

-- the options that a check excludes, and whether each is given
abbrev pub excluded_by_check : Words → List (Bool × List ℕ)
excluded_by_check words =
    (words.keyed, codes "--keyed")
    ∷ (is_some words.derive_key, codes "--derive-key")
    ∷ (is_some words.length, codes "--length")
    ∷ (is_some words.seek, codes "--seek")
    ∷ (words.raw, codes "--raw")
    ∷ (words.no_names, codes "--no-names")
    ∷ (words.tag, codes "--tag")
    ∷ []

-- those that tagged lines exclude
abbrev pub excluded_by_tag : Words → List (Bool × List ℕ)
excluded_by_tag words = (words.raw, codes "--raw") ∷ (words.no_names, codes "--no-names") ∷ []

-- the first option that is given
abbrev pub first_given : List (Bool × List ℕ) → Option (List ℕ)
first_given [] = None
first_given (option ∷ options) = if option.0 then Some option.1 else first_given options

-- whether a file is standard input
abbrev pub is_input : String Global → Bool
is_input file = bytes_eq (string_bytes file) input_name

-- whether standard input is the list of names, or there is neither a list nor a file
abbrev pub is_input_meant : Words → Bool
is_input_meant words = option_map_or is_input words.files0_from (vec_len words.files == 0)

-- whether standard input is to be read for more than a key: it is meant so, or is one of the files
abbrev pub reads_input : Words → Bool
reads_input words = is_input_meant words || list_any is_input words.files.items

-- whether bytes are asked for that lie past the end of the output, of 2^64 - 1 bytes
abbrev pub seeks_past_end : Words → Bool
seeks_past_end words = nat_lt (2 ^ 64 - 1) (unwrap_or words.seek 0 + unwrap_or words.length 32)

-- what is said of files beside a list of names
abbrev pub refusal_of_files : Words → Option (List ℕ)
refusal_of_files words =
    if is_some words.files0_from && not (vec_len words.files == 0) then Some (usage_text ListTakesNoFile) else None

-- what is said of words for a check, where nothing is checked, and of files beside a list of names
abbrev pub refusal_without_check : Words → Option (List ℕ)
refusal_without_check words =
    if words.ignore_missing then Some (usage_text IgnoreMissingAlone)
    else if words.status then Some (usage_text StatusAlone)
    else if words.strict then Some (usage_text StrictAlone)
    else if words.warn then Some (usage_text WarnAlone)
    else refusal_of_files words

-- what is said of words that ask for no output, and of words that only a check takes
abbrev pub refusal_for_output : Words → Option (List ℕ)
refusal_for_output words =
    if words.tag && is_some (first_given (excluded_by_tag words))
    then option_map tag_excludes (first_given (excluded_by_tag words))
    else if seeks_past_end words then Some (usage_text SeekPastEnd)
    else if words.check then refusal_of_files words
    else refusal_without_check words

-- what is said of the first refusal that holds of the words
abbrev pub refusal_for : Words → Option (List ℕ)
refusal_for words =
    if words.check && is_some (first_given (excluded_by_check words))
    then option_map check_excludes (first_given (excluded_by_check words))
    else if words.keyed && is_some words.derive_key then Some (usage_text TwoKeys)
    else if words.quiet && not words.check then Some (usage_text QuietAlone)
    else if words.raw && nat_lt 1 (vec_len words.files) then Some (usage_text RawOne)
    else if words.keyed && reads_input words then Some (usage_text KeyNeedsFiles)
    else refusal_for_output words
