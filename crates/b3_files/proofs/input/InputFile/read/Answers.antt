use Rattle.std.proofs.Common.{◌≡◌, ℕ, ◌+◌, ◌≤◌, List, Option, Result, Ok, Err, IfSome, length, take, drop, refl, ap, ◌∙◌, arith}
use Rattle.std.specs.Io.{ReadsAtMost}
use Rattle.std.specs.Result.{result_ok}
use Rattle.b3_io.specs.Contents.{Gives}
use Rattle.b3_files.specs.Disks.{ReadsAt}
use Rattle.b3_files.proofs.Filling.{gives_same, later_same, none_given, of_each}
use Rattle.b3_files.proofs.input.InputFile.read.Goals as goal

-- how many bytes a read gave, and which
count_within : {E : Type 0} (result : Result ℕ E) (given : Option ℕ) (buffer : List ℕ) (len : ℕ) → given ≡ result_ok result
    → ReadsAtMost result buffer → length buffer ≡ len → IfSome given (λ n. n ≤ len)
count_within (Ok n) given buffer len is bound same = rw (is, ← same) bound.0
count_within (Err error) given buffer len is bound same = rw is tt

given_from : {E : Type 0} (content buffer : List ℕ) (start consumed offset : ℕ) (result : Result ℕ E) (given : Option ℕ)
    → given ≡ result_ok result → ReadsAt content offset result buffer → offset ≡ start + consumed
    → IfSome given (λ n. Gives (drop (start + consumed) content) (take n buffer) (drop (start + (consumed + n)) content))
given_from content buffer start consumed offset (Ok n) given is gives place =
    let later : start + (consumed + n) ≡ offset + n = omega (arith, place) in
    rw (is, later, ← place) gives
given_from content buffer start consumed offset (Err error) given is gives place = rw is tt

pub returns : goal.returns
returns g c =
    let read = c.read_at_retrying.ensures in
    record {
      within = count_within c.read_at_retrying.result c.ok.result c.read_at_retrying.new.buffer _ c.ok.ensures.value read.bound
          (read.buffer ∙ c.read_retrying.ensures.buffer);
      -- the offset is not named, so that a wrong one is refused here
      bytes = λ _ tells.
          given_from (g.P.Stream.content c.args.self.now.file) c.read_at_retrying.new.buffer c.args.self.now.start
          c.args.consumed _ c.read_at_retrying.result c.ok.result c.ok.ensures.value (read.bytes tells) (omega arith);
      in_step = λ _ _. of_each c.ok.result _ (λ n. refl);
    }

pub returns-in_err-checked_add : goal.returns-in_err-checked_add
returns-in_err-checked_add g c = record {
  within = none_given _ _ c.from_residual.ensures;
  bytes = λ _ _. none_given _ _ c.from_residual.ensures;
  in_step = λ _ _. none_given _ _ c.from_residual.ensures;
}

pub returns-then-not-load-clause-bytes : goal.returns-then-not-load-clause-bytes
returns-then-not-load-clause-bytes g c = λ input_tells file_tells.
    let reopened = c.args.self.now in
    let same = rw c.if-self.true at c.requires.in_step input_tells file_tells in
    let offset : reopened.start + (c.args.consumed + c.in-Ok.count) ≡ reopened.start + c.args.consumed + c.in-Ok.count =
    omega arith in
    rw offset (gives_same _ _ _ _ _ c.in-Ok.count same (c.in-Ok.ensures.bytes input_tells))

pub returns-then-not-load-clause-in_step : goal.returns-then-not-load-clause-in_step
returns-then-not-load-clause-in_step g c = λ input_tells file_tells.
    let reopened = c.args.self.now in
    let same = rw c.if-self.true at c.requires.in_step input_tells file_tells in
    let offset : reopened.start + (c.args.consumed + c.in-Ok.count) ≡ reopened.start + c.args.consumed + c.in-Ok.count =
    omega arith in
    let x = g.I.Stream.content reopened.input in
    let a = g.I.Stream.position reopened.input in
    rw (c.if-self.true, offset)
    (ap (λ n. drop n (g.I.Stream.content c.read_retrying.new.stream)) (c.in-Ok.ensures.position input_tells)
    ∙ ap (drop (a + c.in-Ok.count)) (c.in-Ok.ensures.content input_tells)
    ∙ later_same x _ a _ c.in-Ok.count same)

pub returns-in_default-clause-bytes : goal.returns-in_default-clause-bytes
returns-in_default-clause-bytes g c = omega arith
