-- The options that the program takes: what `clap` reads of them. The short ones are -c (99), -l (108) and -w (119).
use Rattle.std.specs.Prelude.{List, [], ◌∷◌, ◌++◌, Some, true, codes, pos}
use Rattle.clap.specs.Lexer.{usize_max}
use Rattle.clap.specs.Simple.{App, new_app, new_rule, on_top, with_rule}
use Rattle.clap.specs.Walk.{Rule, Text}
use Rattle.clap.specs.declared.builder.action.ArgAction.TheVariants.{Append, SetTrue}
use Rattle.clap.specs.declared.builder.value_parser.ValueParser.{ValueParser}
use Rattle.clap.specs.declared.builder.value_parser.ValueParser.TheVariants.{Signed, Unsigned}
use Rattle.b3_io.specs.Options.{max_output_len}

-- an option without a value, and with one
abbrev pub flag : Text → Rule
flag name = record (new_rule name) { long = Some name; action = Some SetTrue }

abbrev pub option : Text → Rule
option name = record (new_rule name) { long = Some name; value_names = 1 }

abbrev pub number : Text → ValueParser → Rule
number name parser = record (option name) { parser = Some parser }

abbrev pub checking : List Rule
checking =
    record (flag (codes "check")) { short = Some 99 }
    ∷ flag (codes "quiet")
    ∷ flag (codes "ignore-missing")
    ∷ flag (codes "status")
    ∷ flag (codes "strict")
    ∷ record (flag (codes "warn")) { short = Some 119 }
    ∷ []

abbrev pub hashing : List Rule
hashing = flag (codes "keyed") ∷ option (codes "derive-key") ∷ []

abbrev pub output : List Rule
output =
    record (number (codes "length") (Signed (pos 0) (pos max_output_len))) { short = Some 108 }
    ∷ number (codes "seek") (Unsigned 0 18446744073709551615)
    ∷ flag (codes "raw")
    ∷ flag (codes "no-names")
    ∷ flag (codes "tag")
    ∷ []

abbrev pub running : List Rule
running =
    option (codes "files0-from")
    ∷ number (codes "num-threads") (Signed (pos 0) (pos 65535))
    ∷ flag (codes "progress")
    ∷ flag (codes "no-mmap")
    ∷ []

-- all words that are no option, in their order
abbrev pub files : Rule
files = record (new_rule (codes "FILE")) {
  action = Some Append;
  range = Some (record { start_inclusive = 0; end_inclusive = usize_max });
}

-- the command with these arguments more, in their order
abbrev pub with_rules : App → List Rule → App
with_rules app [] = app
with_rules app (rule ∷ rules) = with_rules (with_rule app rule) rules

-- the options and files of the program
abbrev pub options : App
options = with_rules (on_top (λ shape. record shape { has_version = true }) (new_app (codes "b3sum")))
    (checking ++ hashing ++ output ++ running ++ files ∷ [])
