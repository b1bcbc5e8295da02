use Rattle.std.proofs.Common.{◌∙◌, arith}
use Rattle.b3_files.proofs.Filling.{none_given}
use Rattle.b3_files.proofs.Telling.{same_count}
use Rattle.b3_files.proofs.source.Source.read_on.Goals as goal

pub returns : goal.returns
returns g c =
    let read = c.in_ok-count.ensures in
    let after = c.in_ok-consumed.ensures.1 in
    record {
      within = read.within;
      bytes = λ tells. rw after (read.bytes tells);
      not_open = read.not_open;
      «open» = read.open;
      at_consumed = λ tells. rw after (read.at_consumed tells);
      in_step = λ input_tells file_tells. rw after (read.in_step input_tells file_tells);
    }

pub returns-in_err-count : goal.returns-in_err-count
returns-in_err-count g c =
    let read = c.in_err-count.ensures in
    let none = c.from_residual.ensures in
    record {
      within = none_given _ _ none;
      bytes = λ _. none_given _ _ none;
      not_open = λ closed. none ∙ read.not_open closed;
      «open» = read.open;
      at_consumed = λ _. none_given _ _ none;
      in_step = λ _ _. none_given _ _ none;
    }

pub returns-in_err-consumed : goal.returns-in_err-consumed
returns-in_err-consumed g c =
    let read = c.in_ok-count.ensures in
    let none = c.from_residual-in_err-consumed.ensures in
    record {
      within = none_given _ _ none;
      bytes = λ _. none_given _ _ none;
      not_open = λ closed. absurd (c.in_err-consumed.ensures (omega (arith, same_count _ _ (read.not_open closed))));
      «open» = read.open;
      at_consumed = λ _. none_given _ _ none;
      in_step = λ _ _. none_given _ _ none;
    }
