use Rattle.std.proofs.Common.{◌∙◌}
use Rattle.b3_io.specs.Checks.{err_report}
use Rattle.b3_io.proofs.message.Message.unread_list.Goals as goal

pub returns : goal.returns
returns c =
    c.on_err.ensures ∙ (λ j.
    let none = c.none-none.ensures j in
    err_report c.args.options.now (c.in_ok-text.ensures j) (record {
      ok = none.ok;
      failed = none.failed;
      lists = 1;
      differing = none.differing;
      malformed = none.malformed;
      missing = none.missing;
    }))
