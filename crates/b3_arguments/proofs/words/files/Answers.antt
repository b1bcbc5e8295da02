use Rattle.std.proofs.Common.{◌∙◌, [], Bor, List, Option, ap, codes, map, option_map, string_bytes, sym, unwrap_or, ℕ}
use Rattle.std.proofs.lemmas.Result.{IfOk-weaker}
use Rattle.clap.proofs.WalkLemmas.{raw_values-rows}
use Rattle.clap.specs.Walk.{Text, texts}
use Rattle.clap.specs.Words.{found_of}
use Rattle.b3_arguments.proofs.words.files.Goals as goal

pub returns-in-Some : goal.returns-in-Some
returns-in-Some c =
    let values = ap (option_map (λ (words : Bor (List (Bor (List ℕ)))). texts words.now)) (sym c.in-Some.is)
    ∙ c.get_strs.ensures ∙ raw_values-rows (found_of c.args.matches.now) (codes "FILE") in
    let names = ap (λ (found : Option (List Text)). unwrap_or found []) values in
    IfOk-weaker c.strings.result _ _ (λ strings same. same ∙ names) c.strings.ensures

pub returns-in-None : goal.returns-in-None
returns-in-None c =
    let values = ap (option_map (λ (words : Bor (List (Bor (List ℕ)))). texts words.now)) (sym c.in-None.is)
    ∙ c.get_strs.ensures ∙ raw_values-rows (found_of c.args.matches.now) (codes "FILE") in
    ap (map string_bytes) c.new.ensures.items ∙ ap (λ (found : Option (List Text)). unwrap_or found []) values
