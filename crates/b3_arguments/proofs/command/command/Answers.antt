use Rattle.std.proofs.Common.{◌≡◌, ◌∙◌, refl, ap, codes, true}
use Rattle.std.proofs.lemmas.Result.{IfOk-weaker}
use Rattle.clap.specs.Simple.{App, app_of, app_of_fields, new_app, on_top}
use Rattle.b3_arguments.specs.Options.{checking, hashing, output, running, with_rules}
use Rattle.b3_arguments.proofs.OptionLemmas.{added}
use Rattle.b3_arguments.proofs.command.command.Goals as goal

pub returns : goal.returns
returns c =
    let version : App → App = on_top (λ shape. record shape { has_version = true }) in
    let start : app_of c.after_help-command.result ≡ version (new_app (codes "b3sum")) =
    ap app_of_fields c.after_help-command.ensures ∙ ap app_of_fields c.about.ensures
    ∙ ap app_of_fields c.version.ensures ∙ ap version c.new.ensures.app in
    let checks = c.in_ok-command.ensures ∙ ap (λ app. with_rules app checking) start in
    let hashes = c.in_ok-command-2.ensures ∙ ap (λ app. with_rules app hashing) checks in
    let writes = c.in_ok-command-3.ensures ∙ ap (λ app. with_rules app output) hashes in
    let runs = c.in_ok-with_running.ensures ∙ ap (λ app. with_rules app running) writes in
    IfOk-weaker c.arg.result _ _ (λ more adds. added adds refl c.files.ensures runs) c.arg.ensures
