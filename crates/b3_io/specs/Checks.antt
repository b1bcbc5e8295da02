-- The script of a run that checks lists of check lines.
use Rattle.std.specs.Prelude.{ℕ, ◌+◌, ◌==◌, ◌&&◌, ◌||◌, if◌then◌else◌, List, [], ◌∷◌, ◌++◌, Option, None, Some, Result, Ok, Err, bytes_eq, codes, decimal, map}
use Rattle.std.specs.Option.{option_map_or}
use Rattle.hex.specs.Hex.{decode_of}
use Rattle.b3_lines.specs.Lines.{lines_of}
use Rattle.b3_lines.specs.Reading.{after_mark, first_refusal, has_mark, layout_of, name_of, shown_of}
use Rattle.b3_lines.specs.Reading.{without_carriage_return}
use Rattle.b3_lines.specs.Reasons.{reason_of}
use Rattle.b3_lines.specs.declared.fault.LineFault.{LineFault}
use Rattle.b3_io.specs.declared.judging.Answer.{Answer as DigestAnswer}
use Rattle.b3_io.specs.declared.judging.Verdict.{Verdict}
use Rattle.b3_io.specs.declared.judging.Verdict.TheVariants.{Good, Differs, Unreadable, Missing as IsAway}
use Rattle.b3_io.specs.declared.options.CheckOptions.{CheckOptions}
use Rattle.b3_io.specs.declared.shelf.NoContent.TheVariants.{Missing, CannotRead}
use Rattle.b3_io.specs.declared.tally.Tally.{Tally}
use Rattle.b3_io.specs.Tallies.{all_ok, has_no_line, is_unverified, no_tally, one_differing, one_failed, one_list, one_malformed, one_missing}
use Rattle.b3_io.specs.Scripts.{Answer, Given, Script, Report, in_turn, then_counted}
use Rattle.b3_io.specs.Scripts.Kind.{Listed}
use Rattle.b3_io.specs.Scripts.Script.{Done, Say, Ask}
use Rattle.b3_io.specs.Digests.{digest_script, line_range}
use Rattle.b3_io.specs.Faults.{prefix}
use Rattle.b3_io.specs.Operands.{Operand}
use Rattle.b3_io.specs.Operands.Operand.{Text, NotText}
use Rattle.b3_io.specs.Sums.{complaint, line_feed, not_text}

-- what a line that is not refused says: a digest, a name, and the name as it stands in the line
pub record Entry : Type 0 where
  pub digest : List ℕ
  pub name : List ℕ
  pub shown : List ℕ

-- the bytes that digits stand for
abbrev pub decoded : {E : Type 0} → Result (List ℕ) E → List ℕ
decoded (Ok bytes) = bytes
decoded (Err _) = []

-- the entry of a line that is not refused
unfoldable pub entry_of : List ℕ → Entry
entry_of line =
    let text = without_carriage_return line in
    let layout = layout_of (after_mark text) in
    record {
      digest = decoded (decode_of layout.digits);
      name = name_of (has_mark text) layout.raw_name;
      shown = shown_of (has_mark text) layout.raw_name;
    }

-- what an answer says of the digest of a line
abbrev pub verdict_of : List ℕ → DigestAnswer → Verdict
verdict_of digest DigestAnswer.Missing = IsAway
verdict_of digest DigestAnswer.CannotRead = Unreadable
verdict_of digest (DigestAnswer.Digest found) = if bytes_eq found digest then Good else Differs

-- the answer by the digest that was found, or by why there is none
abbrev pub answer_as : Given (List ℕ) → DigestAnswer
answer_as (Err Missing) = DigestAnswer.Missing
answer_as (Err CannotRead) = DigestAnswer.CannotRead
answer_as (Ok found) = DigestAnswer.Digest found

abbrev pub verdict_on : List ℕ → Given (List ℕ) → Verdict
verdict_on digest found = verdict_of digest (answer_as found)

-- the same text, but none where the status alone is to tell
abbrev pub unless_silent : CheckOptions → List ℕ → List ℕ
unless_silent options text = if options.status then [] else text

-- the words of a verdict; `quiet` says nothing of a good line, `ignore_missing` nothing of one whose name is
-- missing
abbrev pub verdict_words : CheckOptions → Verdict → Option (List ℕ)
verdict_words options Good = if options.quiet then None else Some (codes ": OK")
verdict_words options Differs = Some (codes ": FAILED")
verdict_words options Unreadable = Some (codes ": FAILED (cannot read)")
verdict_words options IsAway = if options.ignore_missing then None else Some (codes ": FAILED (cannot read)")

-- what is written of a line by its verdict
abbrev pub verdict_text : CheckOptions → List ℕ → Verdict → List ℕ
verdict_text options shown verdict =
    option_map_or (λ words. shown ++ words ++ line_feed) (verdict_words options verdict) []

-- what is counted; a missing name that is not passed over cannot be read
abbrev pub verdict_tally : CheckOptions → Verdict → Tally
verdict_tally options Good = all_ok 1
verdict_tally options Differs = one_differing
verdict_tally options Unreadable = one_failed
verdict_tally options IsAway = if options.ignore_missing then one_missing else one_failed

abbrev pub verdict_report : CheckOptions → List ℕ → Verdict → Report
verdict_report options shown verdict = record {
  out = unless_silent options (verdict_text options shown verdict);
  err = [];
  tally = verdict_tally options verdict;
}

-- a text for the error output alone, and what is counted
abbrev pub err_report : CheckOptions → List ℕ → Tally → Report
err_report options text tally = record { out = []; err = unless_silent options text; tally = tally }

-- why line `number` is refused
abbrev pub line_reason : ℕ → List ℕ → List ℕ
line_reason number reason = codes "line " ++ decimal number ++ codes ": " ++ reason

-- what is said of line `number` of a list, which is refused for a reason; `warn` names the list
abbrev pub refusal : CheckOptions → List ℕ → ℕ → List ℕ → List ℕ
refusal options list number reason =
    if options.warn then complaint list (line_reason number reason)
    else prefix ++ line_reason number reason ++ line_feed

-- the line is malformed
abbrev pub refused_report : CheckOptions → List ℕ → ℕ → LineFault → Report
refused_report options list number fault =
    err_report options (refusal options list number (reason_of fault)) one_malformed

-- the script of line `number` of a list: it is refused, or its name is asked for
abbrev pub line_script : CheckOptions → List ℕ → ℕ → List ℕ → Option LineFault → Script
line_script options list number line (Some fault) = Say (refused_report options list number fault) Done
line_script options list number line None =
    let entry = entry_of line in
    digest_script line_range entry.name (λ found. verdict_report options entry.shown (verdict_on entry.digest found))

-- the scripts of the lines of a list, of which the first has this number
abbrev pub line_scripts : CheckOptions → List ℕ → ℕ → List (List ℕ) → List Script
line_scripts options list number [] = []
line_scripts options list number (line ∷ lines) =
    line_script options list number line (first_refusal line) ∷ line_scripts options list (number + 1) lines

-- what is said of a list that cannot be read
abbrev pub unread_list_report : CheckOptions → List ℕ → Report
unread_list_report options list = err_report options (complaint list (codes "cannot read")) one_list

-- what is said of a list after its lines, by what was counted in them: where missing names are passed over and no name
-- was verified, and where there is to be a check line and there is none; the list fails for either
abbrev pub list_end_report : CheckOptions → List ℕ → Tally → Report
list_end_report options list tally =
    err_report options
    ((if options.ignore_missing && is_unverified tally then complaint list (codes "no file was verified") else [])
    ++ (if options.strict && has_no_line tally then complaint list (codes "no check line found") else []))
    (if (options.ignore_missing && is_unverified tally) || (options.strict && has_no_line tally) then one_list
    else no_tally)

abbrev pub list_end_script : CheckOptions → List ℕ → Tally → Script
list_end_script options list tally = Say (list_end_report options list tally) Done

-- what follows the answer to a list
abbrev pub lines_script : CheckOptions → List ℕ → Answer → Script
lines_script options list (Err why) = Say (unread_list_report options list) Done
lines_script options list (Ok text) =
    then_counted (in_turn (line_scripts options list 1 (lines_of text))) no_tally (list_end_script options list)

-- the script of one list
abbrev pub list_script : CheckOptions → List ℕ → Script
list_script options list = Ask Listed list (lines_script options list)

-- what is said of a list whose name is not text, by the list of names and the number there
abbrev pub unnamed_list_report : CheckOptions → List ℕ → ℕ → Report
unnamed_list_report options names number = err_report options (complaint names (not_text number)) one_list

-- the script of an operand: a list whose name is not text fails by itself
abbrev pub list_operand_script : CheckOptions → Operand → Script
list_operand_script options (Text list) = list_script options list
list_operand_script options (NotText names number) = Say (unnamed_list_report options names number) Done

-- the script of lists
abbrev pub lists_script : CheckOptions → List Operand → Script
lists_script options lists = in_turn (map (list_operand_script options) lists)

-- the words after the number of lines that failed
abbrev pub mismatches : ℕ → List ℕ
mismatches failed =
    if failed == 1 then codes " computed checksum did NOT match" else codes " computed checksums did NOT match"

-- what is said where so many lines failed
abbrev pub warning : ℕ → List ℕ
warning failed = if failed == 0 then [] else prefix ++ codes "WARNING: " ++ decimal failed ++ mismatches failed
    ++ line_feed

-- the warning after the last list
abbrev pub warning_report : CheckOptions → Tally → Report
warning_report options tally = err_report options (warning tally.failed) no_tally

abbrev pub warning_script : CheckOptions → Tally → Script
warning_script options tally = Say (warning_report options tally) Done

-- the script of a run over lists
abbrev pub check_script : CheckOptions → List Operand → Script
check_script options lists = then_counted (lists_script options lists) no_tally (warning_script options)
