use Rattle.std.proofs.Common.{◌∙◌, ap}
use Rattle.b3_io.specs.Checks.{err_report, refusal}
use Rattle.b3_io.proofs.message.Message.refused.Goals as goal

pub returns : goal.returns
returns c =
    let text = c.in_ok-text.ensures
    ∙ ap (refusal c.args.options.now c.args.list.now c.args.number) c.reason.ensures in
    c.on_err.ensures ∙ (λ j.
    let none = c.none.ensures j in
    err_report c.args.options.now (text j) (record {
      ok = none.ok;
      failed = 1;
      lists = none.lists;
      differing = none.differing;
      malformed = 1;
      missing = none.missing;
    }))
