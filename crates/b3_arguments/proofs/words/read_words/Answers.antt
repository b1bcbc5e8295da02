use Rattle.std.proofs.Common.{◌≡◌, ◌∙◌, [], ap, map, string_bytes, subst, sym}
use Rattle.std.proofs.lemmas.Result.{IfErr-weaker, IfOk-weaker}
use Rattle.clap.specs.Faults.{fault_of, is_simple_and_free}
use Rattle.clap.specs.Kinds.{HasKind}
use Rattle.clap.specs.Simple.{is_simple, matches_of}
use Rattle.clap.specs.Words.{found_of, rows_of}
use Rattle.b3_arguments.specs.Options.{options}
use Rattle.b3_arguments.specs.Readings.{AreOf, rows_for}
use Rattle.b3_arguments.proofs.ReadingLemmas.{stop_of_fault, stop_of_files}
use Rattle.b3_arguments.proofs.words.read_words.Goals as goal

pub returns-in-Ok : goal.returns-in-Ok
returns-in-Ok c =
    let given = map string_bytes c.args.words.now in
    let is_command = c.in_ok-command.ensures in
    let read : rows_of (found_of c.in-Ok.matches) ≡ rows_for given =
    (c.in-Ok.ensures.matches (ap is_simple is_command)).0 ∙ ap (λ app. matches_of app given) is_command in
    let no_fault : fault_of options given ≡ [] =
    ap (λ app. fault_of app given) (sym is_command) ∙ c.in-Ok.ensures.kinds (ap is_simple_and_free is_command) in
    record {
      words = IfOk-weaker c.words_of.result _ _ (λ words are. (no_fault, subst (λ rows. AreOf rows words) read are))
          c.words_of.ensures.words;
      stop = IfErr-weaker c.words_of.result _ _ (λ stop why. stop_of_files given _ stop read why)
          c.words_of.ensures.stop;
    }

pub returns-in-Err-clause-stop : goal.returns-in-Err-clause-stop
returns-in-Err-clause-stop c =
    let given = map string_bytes c.args.words.now in
    let is_command = c.in_ok-command.ensures in
    let kind = subst (λ app. HasKind (fault_of app given) c.in-Err.error) is_command
    (c.in-Err.ensures.kinds (ap is_simple_and_free is_command)) in
    stop_of_fault given c.in-Err.error _ kind c.stop_for.ensures
