-- What sums and checks write and count, in a user's words.
use Rattle.std.specs.Prelude.{◌≡◌, ◌≢◌, ◌⊎◌, ⊤, ℕ, ◌&&◌, Bool, false, true, if◌then◌else◌, IsUtf8, List, [], ◌∷◌, ◌++◌, All, Option, None, Some, Result, Ok, Err, bytes_eq, codes, length, map, string_bytes}
use Rattle.std.specs.Io.KnownBytes.{Appends}
use Rattle.std.specs.List.{AllZip, flat_map}
use Rattle.b3_core.specs.Modes.{hash_mode, keyed_mode}
use Rattle.b3_core.specs.Output.{blake3}
use Rattle.b3_core.specs.declared.modes.Mode.{Mode}
use Rattle.b3_hash.specs.Derivation.{derived_mode}
use Rattle.b3_lines.specs.Lines.{lines_of}
use Rattle.b3_lines.specs.Names.{holds_bad_character}
use Rattle.b3_lines.specs.Reading.{IsReadAs}
use Rattle.b3_lines.specs.Writing.{shown}
use Rattle.b3_lines.specs.declared.fault.LineFault.{LineFault}
use Rattle.b3_io.specs.declared.fault.RunFault.{RunFault}
use Rattle.b3_io.specs.declared.judging.Verdict.{Verdict}
use Rattle.b3_io.specs.declared.judging.Verdict.TheVariants.{Good, Differs, Missing, Unreadable}
use Rattle.b3_io.specs.declared.options.CheckOptions.{CheckOptions}
use Rattle.b3_io.specs.declared.options.Form.{Form}
use Rattle.b3_io.specs.declared.options.KeyChoice.{KeyChoice}
use Rattle.b3_io.specs.declared.options.KeyChoice.TheVariants.{Plain, Keyed, Derive}
use Rattle.b3_io.specs.declared.options.SumOptions.{SumOptions}
use Rattle.b3_io.specs.declared.tally.Tally.{Tally}
use Rattle.b3_io.specs.Checks.{Entry, list_end_report, refused_report, unnamed_list_report, unread_list_report, verdict_report, warning_report}
use Rattle.b3_io.specs.Contents.{Contents, input_name}
use Rattle.b3_io.specs.Operands.{Operand}
use Rattle.b3_io.specs.Operands.Operand.{Text, NotText}
use Rattle.b3_io.specs.Scripts.{Report, joined, nothing}
use Rattle.b3_io.specs.Sinks.{GainsBeginning}
use Rattle.b3_io.specs.Sums.{digest_report, digest_text, failed_report, is_bad_name, line_feed, not_text, shows_name}
use Rattle.b3_io.specs.Tallies.{all_ok}

-- ---- the words

-- the digest of a content: the first 32 bytes of its BLAKE3 output, without a key
abbrev pub digest : List ℕ → List ℕ
digest content = blake3 hash_mode content 0 32

-- the line says this digest, this name, and the name as it stands in the line
abbrev pub Says : List ℕ → Entry → Type 0
Says line entry = IsReadAs line entry.digest entry.name entry.shown

-- ---- never wrong: over any shelf that tells its contents, whatever fails

-- reports, one after the other
abbrev pub total : List Report → Report
total [] = nothing
total (said ∷ others) = joined said (total others)

-- two outputs gained the texts of a report, where they tell their bytes, and the tally is its; at a fault they gained
-- beginnings of the texts
abbrev pub Writes : Report → Option (List ℕ) → Option (List ℕ) → Option (List ℕ) → Option (List ℕ)
    → Result Tally RunFault → Type 0
Writes said out_old out_new err_old err_new (Ok tally) =
    Appends out_old out_new said.out × Appends err_old err_new said.err × (tally ≡ said.tally)
Writes said out_old out_new err_old err_new (Err fault) =
    GainsBeginning out_old out_new said.out × GainsBeginning err_old err_new said.err

-- of each operand in order something right is said, then what is said by what was counted, and no more is written
pub record WritesRightly (IsRight : Operand → Report → Type 0) (ends : Tally → Report) (operands : List Operand)
    (out_old out_new err_old err_new : Option (List ℕ)) (result : Result Tally RunFault) : Type 0 where
  pub said : List Report
  pub right : AllZip IsRight operands said
  pub writes : Writes (joined (total said) (ends (total said).tally)) out_old out_new err_old err_new result

-- the mode that is asked for: a key is the content of `-`, of 32 bytes
abbrev pub IsModeOf : Contents → KeyChoice → Mode → Type 0
IsModeOf contents Plain mode = mode ≡ hash_mode
IsModeOf contents Keyed mode =
    (key : List ℕ) × (contents input_name ≡ Some key) × (length key ≡ 32) × (mode ≡ keyed_mode key)
IsModeOf contents (Derive context) mode = mode ≡ derived_mode (string_bytes context)

-- the form shows the name, and no line can
abbrev pub cannot_show : Form → List ℕ → Bool
cannot_show form name = shows_name form && is_bad_name name

-- an operand is a name, of which the digest of its content is written, and nothing else
pub record HasLine (contents : Contents) (options : SumOptions) (operand : Operand) (said : Report) : Type 0 where
  pub name : List ℕ
  pub mode : Mode
  pub content : List ℕ
  pub is_name : operand ≡ Text name
  pub is_mode : IsModeOf contents options.key mode
  pub has : contents name ≡ Some content
  pub can_show : cannot_show options.form name ≡ false
  pub said_is : said ≡ digest_report options.form name (blake3 mode content options.seek options.length)

-- a name has its line, or a complaint in its place; of one that is not text that is said
abbrev pub OperandIsRight : Contents → SumOptions → Operand → Report → Type 0
OperandIsRight contents options (Text name) said =
    HasLine contents options (Text name) said
    ⊎ ((said ≡ failed_report name (codes "cannot read"))
    ⊎ ((cannot_show options.form name ≡ true) × (said ≡ failed_report name (codes "bad name"))))
OperandIsRight contents options (NotText list number) said = said ≡ failed_report list (not_text number)

-- the verdict is right: good only where the digest of the name's content is that of the line
abbrev pub IsJust : Contents → Entry → Verdict → Type 0
IsJust contents entry Good = (content : List ℕ) × (contents entry.name ≡ Some content) × (digest content ≡ entry.digest)
IsJust contents entry Differs =
    (content : List ℕ) × (contents entry.name ≡ Some content) × (digest content ≢ entry.digest)
IsJust contents entry Missing = contents entry.name ≡ None
IsJust contents entry Unreadable = ⊤

-- a line says its entry, on which there is a right verdict
pub record HasVerdict (contents : Contents) (options : CheckOptions) (line : List ℕ) (said : Report) : Type 0 where
  pub entry : Entry
  pub verdict : Verdict
  pub says : Says line entry
  pub is_just : IsJust contents entry verdict
  pub said_is : said ≡ verdict_report options entry.shown verdict

-- a line says nothing, which is said of it
pub record IsRefused (options : CheckOptions) (list line : List ℕ) (said : Report) : Type 0 where
  pub number : ℕ
  pub fault : LineFault
  pub says_nothing : (entry : Entry) → ¬ Says line entry
  pub said_is : said ≡ refused_report options list number fault

abbrev pub LineIsRight : Contents → CheckOptions → List ℕ → List ℕ → Report → Type 0
LineIsRight contents options list line said =
    HasVerdict contents options line said ⊎ IsRefused options list line said

-- each line of a list in order has its verdict or is refused, and then comes what is wrong with the list as a whole
pub record HasLines (contents : Contents) (options : CheckOptions) (list : List ℕ) (said : Report) : Type 0 where
  pub text : List ℕ
  pub of_lines : List Report
  pub has : contents list ≡ Some text
  pub right : AllZip (LineIsRight contents options list) (lines_of text) of_lines
  pub said_is : said ≡ joined (total of_lines) (list_end_report options list (total of_lines).tally)

-- a list has what is said of its lines, or a complaint in its place; of one whose name is not text that is said
abbrev pub ListOperandIsRight : Contents → CheckOptions → Operand → Report → Type 0
ListOperandIsRight contents options (Text list) said =
    HasLines contents options list said ⊎ (said ≡ unread_list_report options list)
ListOperandIsRight contents options (NotText names number) said = said ≡ unnamed_list_report options names number

-- a line says the digest of the content of its name, or a name that is not there and is passed over
abbrev pub LineIsVerified : Contents → CheckOptions → List ℕ → Type 0
LineIsVerified contents options line =
    (entry : Entry) × Says line entry
    × (IsJust contents entry Good ⊎ ((options.ignore_missing ≡ true) × IsJust contents entry Missing))

-- a list is there, and each of its lines is verified
abbrev pub ListOperandIsVerified : Contents → CheckOptions → Operand → Type 0
ListOperandIsVerified contents options (Text list) =
    (text : List ℕ) × (contents list ≡ Some text) × All (LineIsVerified contents options) (lines_of text)
ListOperandIsVerified contents options (NotText names number) = ⊥

-- ---- of files that are known: over a shelf that tells its contents, and fails nowhere else

-- a file: its name and its content
pub record File : Type 0 where
  pub name : List ℕ
  pub content : List ℕ

-- a file is there by its name, and a line can show the name: it is text, not empty, and holds neither NUL nor U+FFFD
pub record IsThere (contents : Contents) (file : File) : Type 0 where
  pub has : contents file.name ≡ Some file.content
  pub is_text : IsUtf8 file.name
  pub is_named : file.name ≢ []
  pub is_lawful : holds_bad_character file.name ≡ false

-- the digests that check lines hold are asked for
pub record AsksDigests (options : SumOptions) : Type 0 where
  pub key : options.key ≡ Plain
  pub seek : options.seek ≡ 0
  pub length : options.length ≡ 32

-- nothing is left out, and nothing else fails
pub record AsksAll (options : CheckOptions) : Type 0 where
  pub quiet : options.quiet ≡ false
  pub ignore_missing : options.ignore_missing ≡ false
  pub status : options.status ≡ false
  pub strict : options.strict ≡ false

-- the verdict on a line of this digest, whose name has this content, or none
abbrev pub verdict : List ℕ → Option (List ℕ) → Verdict
verdict said None = Missing
verdict said (Some content) = if bytes_eq (digest content) said then Good else Differs

-- the verdict on what a line says
abbrev pub verdict_over : Contents → Entry → Verdict
verdict_over contents entry = verdict entry.digest (contents entry.name)

-- what a sum of files says: of each a check line of its digest and its name, or its digest alone
abbrev pub sums_of : Form → List File → Report
sums_of form files = record {
  out = flat_map (λ file. digest_text form (digest file.content) file.name) files;
  err = [];
  tally = all_ok (length files);
}

-- what a check of lines says: the verdict on each, and then the warning
abbrev pub verdicts_on : CheckOptions → Contents → List Entry → Report
verdicts_on options contents entries =
    let said = total (map (λ entry. verdict_report options entry.shown (verdict_over contents entry)) entries) in
    joined said (warning_report options said.tally)

-- what a check of the lines of files says: of each its name as it stands there, and `: OK`
abbrev pub oks_of : List File → Report
oks_of files = record {
  out = flat_map (λ file. shown file.name ++ codes ": OK" ++ line_feed) files;
  err = [];
  tally = all_ok (length files);
}
