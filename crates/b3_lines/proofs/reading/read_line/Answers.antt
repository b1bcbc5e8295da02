use Rattle.std.proofs.Common.{◌∙◌, sym}
use Rattle.std.specs.String.{string_bytes}
use Rattle.std.proofs.lemmas.Result.{err_from_is_err_and}
use Rattle.b3_lines.proofs.Outcomes.{IsReadAs-from_SaysAs, SaysAs-from_IsReadAs, SaysAs-from_parts, SaysAs-same, one_outcome}
use Rattle.b3_lines.proofs.OneForm.{one_form}
use Rattle.b3_lines.proofs.Refusals.{first_refusal-not_memory}
use Rattle.b3_lines.proofs.reading.read_line.Goals as goal

pub returns-in_err-parts-clause-one_outcome : goal.returns-in_err-parts-clause-one_outcome
returns-in_err-parts-clause-one_outcome c = one_outcome c.args.line.now

pub returns-in_err-name-clause-one_outcome : goal.returns-in_err-name-clause-one_outcome
returns-in_err-name-clause-one_outcome c = one_outcome c.args.line.now

pub returns-in_err-shown-clause-one_outcome : goal.returns-in_err-shown-clause-one_outcome
returns-in_err-shown-clause-one_outcome c = one_outcome c.args.line.now

pub returns-clause-one_outcome : goal.returns-clause-one_outcome
returns-clause-one_outcome c = one_outcome c.args.line.now

pub returns-in_err-parts-clause-one_form : goal.returns-in_err-parts-clause-one_form
returns-in_err-parts-clause-one_form c = one_form c.args.line.now

pub returns-in_err-name-clause-one_form : goal.returns-in_err-name-clause-one_form
returns-in_err-name-clause-one_form c = one_form c.args.line.now

pub returns-in_err-shown-clause-one_form : goal.returns-in_err-shown-clause-one_form
returns-in_err-shown-clause-one_form c = one_form c.args.line.now

pub returns-clause-one_form : goal.returns-clause-one_form
returns-clause-one_form c = one_form c.args.line.now

pub returns-in_err-parts-clause-only : goal.returns-in_err-parts-clause-only
returns-in_err-parts-clause-only c digest name shown reads =
    cc (sym c.in_err-parts.ensures.refused ∙ (SaysAs-from_IsReadAs c.args.line.now digest name shown reads).accepted)

pub returns-in_err-parts-clause-memory : goal.returns-in_err-parts-clause-memory
returns-in_err-parts-clause-memory c =
    let p = err_from_is_err_and c.from_residual.result c.from_residual.ensures.1 in
    λ memory. absurd
    (first_refusal-not_memory c.args.line.now
    (c.in_err-parts.ensures.refused ∙ (let is = p.1 in let fault = p.2 in cc)))

pub returns-clause-read : goal.returns-clause-read
returns-clause-read c =
    let parts = c.in_ok-parts.parts in
    IsReadAs-from_SaysAs c.args.line.now parts.digest (string_bytes c.in_ok-name.name)
    (string_bytes c.in_ok-shown.shown)
    (SaysAs-from_parts c.args.line.now parts.digest parts.raw_name.now _ _ parts.marked parts.escapes
    c.in_ok-parts.ensures.taken
    c.in_ok-name.ensures c.in_ok-shown.ensures)

pub returns-clause-only : goal.returns-clause-only
returns-clause-only c digest name shown reads =
    let parts = c.in_ok-parts.parts in
    SaysAs-same c.args.line.now parts.digest (string_bytes c.in_ok-name.name) (string_bytes c.in_ok-shown.shown) digest
    name shown
    (SaysAs-from_parts c.args.line.now parts.digest parts.raw_name.now _ _ parts.marked parts.escapes
    c.in_ok-parts.ensures.taken
    c.in_ok-name.ensures c.in_ok-shown.ensures)
    (SaysAs-from_IsReadAs c.args.line.now digest name shown reads)
