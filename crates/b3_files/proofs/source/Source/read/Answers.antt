use Rattle.std.proofs.Common.{ℕ, ◌+◌, ◌≤◌, subst, ap, refl, ◌∙◌, arith}
use Rattle.std.proofs.lemmas.Bool.{true≢false}
use Rattle.b3_files.proofs.Filling.{of_each}
use Rattle.b3_files.proofs.Telling.{both_tell}
use Rattle.b3_files.proofs.source.Source.read.Goals as goal

pub returns-in-Nothing : goal.returns-in-Nothing
returns-in-Nothing g c = record {
  within = omega (arith);
  bytes = λ _. rw c.in-Nothing.is (record { parts = refl; end = λ _. refl });
  not_open = λ _. refl;
  «open» = refl;
  at_consumed = λ _. rw c.in-Nothing.is refl;
  in_step = λ _ _. rw c.in-Nothing.is refl;
}

pub returns-in-Ok : goal.returns-in-Ok
returns-in-Ok g c =
    let read = c.in-Ok.ensures in
    record {
      within = subst (λ (n : ℕ). c.in-Ok.count ≤ n) read.buffer read.bound.0;
      bytes = λ tells.
          let told = rw c.in-Input.is at tells in
          rw (c.in-Input.is, read.position told, read.content told) (read.bytes told);
      not_open = λ closed. absurd (true≢false (rw c.in-Input.is at closed));
      «open» = rw c.in-Input.is refl;
      at_consumed = λ _. refl;
      in_step = λ _ _. refl;
    }

pub returns-in-Err : goal.returns-in-Err
returns-in-Err g c = record {
  within = tt;
  bytes = λ _. tt;
  not_open = λ closed. absurd (true≢false (rw c.in-Input.is at closed));
  «open» = rw c.in-Input.is refl;
  at_consumed = λ _. tt;
  in_step = λ _ _. tt;
}

pub returns-in-Reopened : goal.returns-in-Reopened
returns-in-Reopened g c = record {
  within = c.read.ensures.within;
  bytes = λ tells.
      let told = both_tell g.I.Stream.tells g.P.Stream.tells (rw c.in-Reopened.is at tells) in
      rw c.in-Reopened.is (c.read.ensures.bytes told.0 told.1);
  not_open = λ closed. absurd (true≢false (rw c.in-Reopened.is at closed));
  «open» = rw c.in-Reopened.is refl;
  at_consumed = λ _. of_each c.read.result _ (λ n. refl);
  in_step = c.read.ensures.in_step;
}

pub returns-in-Ok-read_retrying : goal.returns-in-Ok-read_retrying
returns-in-Ok-read_retrying g c =
    let read = c.in-Ok-read_retrying.ensures in
    let at = rw c.in-Opened.is at c.requires.at_consumed in
    record {
      within = subst (λ (n : ℕ). c.in-Ok-read_retrying.count ≤ n) read.buffer read.bound.0;
      bytes = λ tells.
          let told = rw c.in-Opened.is at tells in
          rw (c.in-Opened.is, read.content told) (rw (at told) at (read.bytes told));
      not_open = λ closed. absurd (true≢false (rw c.in-Opened.is at closed));
      «open» = rw c.in-Opened.is refl;
      at_consumed = λ tells. read.position tells ∙ ap (λ n. n + c.in-Ok-read_retrying.count) (at tells);
      in_step = λ _ _. refl;
    }

pub returns-in-Err-read_retrying : goal.returns-in-Err-read_retrying
returns-in-Err-read_retrying g c = record {
  within = tt;
  bytes = λ _. tt;
  not_open = λ closed. absurd (true≢false (rw c.in-Opened.is at closed));
  «open» = rw c.in-Opened.is refl;
  at_consumed = λ _. tt;
  in_step = λ _ _. tt;
}
