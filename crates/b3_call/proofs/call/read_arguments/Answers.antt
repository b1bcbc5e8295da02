use Rattle.std.proofs.Common.{◌≡◌, ◌∙◌, Ok, ap, map, string_bytes, subst, sym, rules}
use Rattle.std.proofs.lemmas.Result.{IfOk-weaker}
use Rattle.b3_call.specs.Calls.{AreWordsOf, texts_in}
use Rattle.b3_call.proofs.call.read_arguments.Goals as goal

pub returns-clause-words : goal.returns-clause-words
returns-clause-words c =
    let given : Ok (map string_bytes c.as_slice.result.now) ≡ texts_in c.args.arguments =
    ap (λ words. Ok (map string_bytes words)) c.as_slice.ensures.value ∙ ap texts_in (sym c.in_ok-arguments.was) in
    IfOk-weaker c.read_words.result _ _ (λ words are. subst (λ texts. AreWordsOf texts words) given are)
    c.read_words.ensures.words

pub returns-clause-stop : goal.returns-clause-stop
returns-clause-stop c = search rules
