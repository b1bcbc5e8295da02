use Rattle.std.proofs.Common.{◌≡◌, ◌+◌, ◌-◌, ◌∙◌, ap, arith, drop, length, refl, slice_index, sym, take, true}
use Rattle.std.proofs.lemmas.Bool.{eqb-true, not_from_false, or_left}
use Rattle.std.proofs.lemmas.List.{take_rest}
use Rattle.b3_lines.specs.Names.{has_bad_escape}
use Rattle.b3_lines.proofs.Escapes.{counts-step, has_bad_escape-at_end, has_bad_escape-first, has_bad_escape-none, unescaped-none}
use Rattle.b3_lines.proofs.names.count_escapes.Goals as goal
use Rattle.b3_lines.proofs.names.count_escapes.Goals.{then-at-rest-via-then-at-rest, then-at-rest-via-else-at-rest+then-not-may_follow_backslash}

pub returns-then-at-rest-clause-lawful : goal.returns-then-at-rest-clause-lawful
returns-then-at-rest-clause-lawful c =
    let found = c.in-Some.ensures in
    let rest = c.loop-at.rest.now in
    let at = c.in-Some.at in
    let is = eqb-true (slice_index rest at) 92 found.1 in
    let bad : has_bad_escape rest ≡ true = elim c.then-at-rest.branch [
      | then-at-rest-via-then-at-rest w ↦ has_bad_escape-at_end rest at w.if-at-rest.true is found.0.before
      | then-at-rest-via-else-at-rest+then-not-may_follow_backslash w ↦
          has_bad_escape-first rest at (omega (arith, found.0.high)) is found.0.before
          ∙ or_left _ _ (not_from_false _ (sym w.may_follow_backslash.ensures ∙ w.if-not-may_follow_backslash.true))
    ] in
    (λ _. c.loop-at.invariant.same ∙ bad, λ _. refl)

pub loop-at-preserved : goal.loop-at-preserved
loop-at-preserved c =
    let found = c.in-Some.ensures in
    let rest = c.loop-at.rest.now in
    let at = c.in-Some.at in
    let is = eqb-true (slice_index rest at) 92 found.1 in
    let step =
    counts-step rest (take (length rest - (at + 2)) (drop (at + 2) rest)) at (take_rest rest (at + 2))
    (omega (arith, found.0.high)) is
    found.0.before (sym c.may_follow_backslash.ensures ∙ c.if-not-may_follow_backslash.false) in
    record {
      same = c.loop-at.invariant.same ∙ step.0;
      fits = omega (arith, step.2);
      shorter = omega (arith, step.1, step.2);
    }

pub returns-clause-lawful : goal.returns-clause-lawful
returns-clause-lawful c =
    let none = c.loop-at.invariant.same ∙ has_bad_escape-none c.loop-at.rest.now c.in_default.ensures in
    (λ never. cc never, λ bad. cc (sym none ∙ bad))

pub returns-clause-count : goal.returns-clause-count
returns-clause-count c =
    let whole = ap length (unescaped-none c.loop-at.rest.now c.in_default.ensures) in
    omega (arith, whole, c.loop-at.invariant.shorter)
