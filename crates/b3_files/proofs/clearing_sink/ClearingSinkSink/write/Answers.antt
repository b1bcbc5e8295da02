use Rattle.std.proofs.Common.{rules, sym}
use Rattle.std.proofs.lemmas.List.{length-take-le}
use Rattle.b3_files.proofs.clearing_sink.ClearingSinkSink.write.Goals as goal

pub returns-in_err-count-clause-err : goal.returns-in_err-count-clause-err
returns-in_err-count-clause-err g c = search rules

pub slice_bounds-note_output-end : goal.slice_bounds-note_output-end
slice_bounds-note_output-end g c = sym (length-take-le c.in_ok-count.count c.args.bytes.now c.in_ok-count.ensures.within)

pub returns-in-Some : goal.returns-in-Some
returns-in-Some g c = c.in_ok-count.ensures

pub returns-in_default : goal.returns-in_default
returns-in_default g c = c.in_ok-count.ensures
