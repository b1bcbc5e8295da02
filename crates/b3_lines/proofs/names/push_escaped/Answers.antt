use Rattle.std.proofs.Common.{◌++◌, ◌+◌, ◌∙◌, ap, sym}
use Rattle.std.proofs.lemmas.List.{take_rest}
use Rattle.b3_lines.proofs.Escapes.{escaped-step, escaped-none}
use Rattle.b3_lines.proofs.Results.{OnOk-grown}
use Rattle.b3_lines.proofs.names.push_escaped.Goals as goal

pub loop-at-preserved : goal.loop-at-preserved
loop-at-preserved c =
    let found = c.in-Some.ensures in
    escaped-step c.loop-at.line.items c.extend_from_slice.new.self.items _ c.loop-at.rest.now _ _ c.in-Some.at
    c.loop-at.invariant c.in_ok-extend_from_slice.ensures.items
    (c.in_ok-extend_from_slice-2.ensures.items ∙ ap (λ t. c.extend_from_slice.new.self.items ++ t) c.escape.ensures)
    (take_rest c.loop-at.rest.now (c.in-Some.at + 1)) found.0.high found.0.before

pub returns : goal.returns
returns c =
    OnOk-grown _ _ _ _ _ c.extend_from_slice-2.ensures.items
    (ap (λ t. c.loop-at.line.items ++ t) (sym (escaped-none c.loop-at.rest.now c.in_default.ensures))
    ∙ c.loop-at.invariant)
