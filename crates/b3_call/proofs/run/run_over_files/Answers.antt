use Rattle.std.proofs.Common.{◌≡◌, ◌∙◌, ap, inr, map, refl, string_bytes}
use Rattle.std.specs.Global.{Global}
use Rattle.std.specs.Prelude.{String}
use Rattle.b3_io.specs.Operands.{operands_left}
use Rattle.b3_io.specs.Operands.Operand.{Text}
use Rattle.b3_call.specs.Programs.{operands_of}
use Rattle.b3_call.proofs.ListLemmas.{operands_of-given, refused_at_once}
use Rattle.b3_call.proofs.run.run_over_files.Goals as goal

pub returns-in-Ok : goal.returns-in-Ok
returns-in-Ok g c =
    let is : operands_left c.given-operands.result ≡ operands_of c.args.files.items =
    c.given-operands.ensures
    ∙ ap (map (λ (name : String Global). Text (string_bytes name))) c.as_slice.ensures.value
    ∙ operands_of-given c.in-Ok.names.items c.args.files.items c.in-Ok.ensures in
    rw is at c.run_job.ensures

pub returns-in-Err : goal.returns-in-Err
returns-in-Err g c = inr (refused_at_once _ _ _ _ _ c.fail.result refl c.fail.ensures.said c.fail.ensures.status)
