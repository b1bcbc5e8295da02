use Rattle.std.proofs.Common.{◌≡◌, ◌+◌, ◌*◌, ◌%◌, ◌^◌, sym, ◌∙◌, arith}
use Rattle.std.proofs.lemmas.Bool.{lt-ltb, le-ltb, eq-eqb, ne_eqb, cond-true, cond-false}
use Rattle.b3_hash.specs.Hashers.{length_of}
use Rattle.b3_hash.proofs.hasher.Hasher.push_window.Goals as goal

pub returns-then-level-gt53-clause-answer : goal.returns-then-level-gt53-clause-answer
returns-then-level-gt53-clause-answer c = sym (cond-true _ _ _ (lt-ltb 53 _ c.if-level-gt53.true))

pub returns-then-len-size-ne0-clause-answer : goal.returns-then-len-size-ne0-clause-answer
returns-then-len-size-ne0-clause-answer c =
    let same : c.len-len.result % c.subtree_len-size.result ≡ _ =
    λ i. c.len-len.ensures.value i % c.subtree_len-size.ensures.value i in
    sym (cond-false _ _ _ (le-ltb 53 _ c.if-level-gt53.false)
    ∙ cond-false _ _ _ (ne_eqb _ 0 (λ none. c.if-len-size-ne0.true (same ∙ none))))

pub returns-then-size-len-clause-answer : goal.returns-then-size-len-clause-answer
returns-then-size-len-clause-answer c =
    let same : c.len-len.result % c.subtree_len-size.result ≡ _ =
    λ i. c.len-len.ensures.value i % c.subtree_len-size.ensures.value i in
    sym (cond-false _ _ _ (le-ltb 53 _ c.if-level-gt53.false)
    ∙ cond-true _ _ _ (eq-eqb _ 0 (sym same ∙ c.if-len-size-ne0.false))
    ∙ cond-false _ _ _ (le-ltb (length_of c.args.self.now + 1024 * 2 ^ c.args.level) (2 ^ 64)
    (omega (arith, c.len-len.ensures.value, c.subtree_len-size.ensures.value, c.if-size-len.true))))

pub returns-clause-answer : goal.returns-clause-answer
returns-clause-answer c =
    let same : c.len-len.result % c.subtree_len-size.result ≡ _ =
    λ i. c.len-len.ensures.value i % c.subtree_len-size.ensures.value i in
    sym (cond-false _ _ _ (le-ltb 53 _ c.if-level-gt53.false)
    ∙ cond-true _ _ _ (eq-eqb _ 0 (sym same ∙ c.if-len-size-ne0.false))
    ∙ cond-true _ _ _ (lt-ltb (length_of c.args.self.now + 1024 * 2 ^ c.args.level) (2 ^ 64) (omega
    (arith, c.len-len.ensures.value, c.len-len.type_inv, c.subtree_len-size.ensures.value, c.if-size-len.false))))
