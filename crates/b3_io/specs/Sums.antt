-- The script of a run that writes the digest of each name.
use Rattle.std.specs.Prelude.{ℕ, ◌==◌, ◌||◌, ◌&&◌, Bool, true, false, if◌then◌else◌, List, [], ◌∷◌, ◌++◌, Ok, Err, codes, decimal, length, map}
use Rattle.std.specs.String.{string_bytes}
use Rattle.hex.specs.Hex.{encode_lower}
use Rattle.b3_core.specs.Modes.{hash_mode, keyed_mode}
use Rattle.b3_core.specs.declared.modes.Mode.{Mode}
use Rattle.b3_hash.specs.Derivation.{derived_mode}
use Rattle.b3_lines.specs.Names.{holds_bad_character}
use Rattle.b3_lines.specs.Writing.{plain_text, shown, tagged_text}
use Rattle.b3_io.specs.declared.fault.RunFault.TheVariants.{ReadFault, BadKey}
use Rattle.b3_io.specs.declared.output_range.OutputRange.{OutputRange}
use Rattle.b3_io.specs.declared.options.SumOptions.{SumOptions}
use Rattle.b3_io.specs.declared.options.Form.{Form}
use Rattle.b3_io.specs.declared.options.Form.TheVariants.{Named, Bare, Raw, Tagged}
use Rattle.b3_io.specs.declared.options.KeyChoice.{KeyChoice}
use Rattle.b3_io.specs.declared.options.KeyChoice.TheVariants.{Plain, Keyed, Derive}
use Rattle.b3_io.specs.Contents.{input_name}
use Rattle.b3_io.specs.Faults.{prefix}
use Rattle.b3_io.specs.Operands.{Operand}
use Rattle.b3_io.specs.Operands.Operand.{Text, NotText}
use Rattle.b3_io.specs.Tallies.{all_ok, one_failed}
use Rattle.b3_io.specs.Scripts.{Answer, Given, Script, Report, in_turn}
use Rattle.b3_io.specs.Scripts.Kind.{Key}
use Rattle.b3_io.specs.Scripts.Script.{Done, Fail, Say, Ask}
use Rattle.b3_io.specs.Digests.{digest_script, range_of}

-- a line feed
abbrev pub line_feed : List ℕ
line_feed = 10 ∷ []

-- what is said of a name that has no line: its shown form, and why
abbrev pub complaint : List ℕ → List ℕ → List ℕ
complaint name why = prefix ++ shown name ++ codes ": " ++ why ++ line_feed

-- a name that gives no digest fails
abbrev pub failed_report : List ℕ → List ℕ → Report
failed_report name why = record { out = []; err = complaint name why; tally = one_failed }

-- whether no line can show the name
abbrev pub is_bad_name : List ℕ → Bool
is_bad_name name = length name == 0 || holds_bad_character name

-- whether a form shows the name
abbrev pub shows_name : Form → Bool
shows_name Named = true
shows_name Bare = false
shows_name Raw = false
shows_name Tagged = true

-- what is written for a digest: a line of either form, the digits and a line feed, or the bytes alone
abbrev pub digest_text : Form → List ℕ → List ℕ → List ℕ
digest_text Named digest name = plain_text digest name ++ line_feed
digest_text Bare digest name = encode_lower digest ++ line_feed
digest_text Raw digest name = digest
digest_text Tagged digest name = tagged_text digest name ++ line_feed

-- what is said of a name by its digest
abbrev pub digest_report : Form → List ℕ → List ℕ → Report
digest_report form name digest = record { out = digest_text form digest name; err = []; tally = all_ok 1 }

-- the same, or what is said where it is missing or cannot be read
abbrev pub name_report : Form → List ℕ → Given (List ℕ) → Report
name_report form name (Err why) = failed_report name (codes "cannot read")
name_report form name (Ok digest) = digest_report form name digest

-- the script of one name, which is asked for unless the form shows a name that no line can show
abbrev pub name_script : Form → OutputRange → List ℕ → Script
name_script form range name =
    if shows_name form && is_bad_name name then Say (failed_report name (codes "bad name")) Done
    else digest_script range name (name_report form name)

-- why the name of this number in a list of names has no line
abbrev pub not_text : ℕ → List ℕ
not_text number = codes "name " ++ decimal number ++ codes " is not text"

-- the script of an operand: a name that is not text fails by itself
abbrev pub operand_script : Form → OutputRange → Operand → Script
operand_script form range (Text name) = name_script form range name
operand_script form range (NotText list number) = Say (failed_report list (not_text number)) Done

-- the script of operands
abbrev pub names_script : Form → OutputRange → List Operand → Script
names_script form range operands = in_turn (map (operand_script form range) operands)

-- what follows the answer to the key: a fault, unless it is 32 bytes
abbrev pub keyed_script : (Mode → Script) → Answer → Script
keyed_script next (Err why) = Fail ReadFault
keyed_script next (Ok key) = if length key == 32 then next (keyed_mode key) else Fail BadKey

-- the script in the mode of a choice of key, which is asked for first where it is one that is read
abbrev pub with_mode : KeyChoice → (Mode → Script) → Script
with_mode Plain next = next hash_mode
with_mode Keyed next = Ask Key input_name (keyed_script next)
with_mode (Derive context) next = next (derived_mode (string_bytes context))

-- the script of a run over operands
abbrev pub sum_script : SumOptions → List Operand → Script
sum_script options operands =
    with_mode options.key (λ mode. names_script options.form (range_of mode options) operands)

-- how many keys are asked for
abbrev pub keys_asked : KeyChoice → ℕ
keys_asked Plain = 0
keys_asked Keyed = 1
keys_asked (Derive context) = 0
