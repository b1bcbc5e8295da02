use Rattle.std.proofs.Common.{refl, string_bytes}
use Rattle.b3_check.specs.Laws.{oks_of}
use Rattle.b3_io.specs.MemoryShelves.{shelf_contents}
use Rattle.b3_io.specs.declared.options.Form.TheVariants.{Named}
use Rattle.b3_laws.proofs.There.{report_of-written}
use Rattle.b3_laws.proofs.runs.check_list.Goals as goal

pub returns : goal.returns
returns g c = record {
  report = λ files has there.
      report_of-written (oks_of files) c.in_ok-written_to.field-0 _ _ _ _ c.in_ok-tally.tally
      c.in_ok-written_to.ensures c.new-out.ensures.bytes c.new-err.ensures.bytes
      (c.in_ok-tally.ensures.sums_check (shelf_contents c.args.shelf.now) Named (string_bytes c.args.list) files
      refl refl (record { quiet = refl; ignore_missing = refl; status = refl; strict = refl })
      c.given-operands.ensures refl has there);
}
