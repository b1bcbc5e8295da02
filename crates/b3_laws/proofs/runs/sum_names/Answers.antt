use Rattle.std.proofs.Common.{◌∙◌, ap, map, refl, string_bytes, sym}
use Rattle.b3_check.specs.Laws.{File, sums_of}
use Rattle.b3_io.specs.MemoryShelves.{shelf_contents}
use Rattle.b3_io.specs.Operands.Operand.{Text}
use Rattle.b3_io.specs.declared.options.Form.TheVariants.{Named}
use Rattle.b3_io.proofs.OperandLemmas.{map-Text}
use Rattle.b3_laws.proofs.There.{report_of-written}
use Rattle.b3_laws.proofs.runs.sum_names.Goals as goal

pub returns-clause-report : goal.returns-clause-report
returns-clause-report g c files names_are there =
    let operands = c.given-operands.ensures ∙ map-Text string_bytes c.args.names.now ∙ ap (map Text) names_are
    ∙ sym (map-Text (λ (file : File). file.name) files) in
    report_of-written (sums_of Named files) c.in_ok-written_to.field-0 _ _ _ _ c.in_ok-tally.tally
    c.in_ok-written_to.ensures c.new-out.ensures.bytes c.new-err.ensures.bytes
    (c.in_ok-tally.ensures.sums (shelf_contents c.args.shelf.now) files refl refl
    (record { key = refl; seek = refl; length = refl }) operands there)
