use Rattle.std.proofs.Common.{◌+◌, ap, ◌∙◌}
use Rattle.b3_files.specs.Disks.{count_of}
use Rattle.b3_files.proofs.retrying.read_retrying.Goals as goal

pub returns-in_default : goal.returns-in_default
returns-in_default g c =
    let before = c.loop-try.invariant in
    record {
      bound = tt;
      buffer = c.read.auto.buffer ∙ before.buffer;
      bytes = λ _. tt;
      position = λ tells. c.in-Err.ensures.position tells ∙ ap (λ n. n + 0) (before.position tells);
      content = λ tells. c.in-Err.ensures.content tells ∙ before.content tells;
    }

pub returns-in_default-2 : goal.returns-in_default-2
returns-in_default-2 g c =
    let before = c.loop-try.invariant in
    let read = c.read.ensures in
    record {
      bound = read.bound;
      buffer = c.read.auto.buffer ∙ before.buffer;
      bytes = λ tells. rw (before.position tells, before.content tells) at (read.bytes tells);
      position = λ tells. read.position tells ∙ ap (λ n. n + count_of c.read.result) (before.position tells);
      content = λ tells. read.content tells ∙ before.content tells;
    }

pub returns : goal.returns
returns g c =
    let before = c.loop-try.invariant in
    let read = c.read-2.ensures in
    record {
      bound = read.bound;
      buffer = c.read-2.auto.buffer ∙ before.buffer;
      bytes = λ tells. rw (before.position tells, before.content tells) at (read.bytes tells);
      position = λ tells. read.position tells ∙ ap (λ n. n + count_of c.read-2.result) (before.position tells);
      content = λ tells. read.content tells ∙ before.content tells;
    }
