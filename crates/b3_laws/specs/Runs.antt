-- What was written, as a report.
use Rattle.b3_io.specs.Scripts.{Report}
use Rattle.b3_laws.specs.declared.runs.Written.{Written}

abbrev pub report_of : Written → Report
report_of written = record { out = written.out.items; err = written.err.items; tally = written.tally }
