use Rattle.std.proofs.Common.{◌≡◌, ℕ, ◌≤◌, true, Option, None, Some, IfSome, nat_eq, length, take, refl, sym, ◌∙◌, rules, arith}
use Rattle.std.proofs.lemmas.Bool.{eqb-true, true≢false}
use Rattle.std.specs.Option.{option_eq}
use Rattle.b3_files.proofs.Filling.{filled_all, filled_more, filled_to_end, none_given, take-kept}
use Rattle.b3_files.proofs.retrying.fill_at.Goals as goal

pub loop-filled-preserved : goal.loop-filled-preserved
loop-filled-preserved g c =
    let fits : c.in-Ok.count ≤ length c.read_at_retrying.new.buffer = c.in-Ok.ensures.bound.0 in
    let start = c.in_ok-start.ensures.1 in
    record {
      within = search (rules, arith);
      buffer = search (rules, arith);
      bytes = λ tells.
          filled_more (g.F.Stream.content c.args.file.now) c.loop-filled.buffer c.read_at_retrying.new.buffer _
          c.args.offset c.loop-filled.filled c.in-Ok.count c.loop-filled.invariant.within fits
          (c.loop-filled.invariant.bytes tells)
          (rw start at c.in-Ok.ensures.bytes tells);
    }

pub returns-in_default-clause-bytes : goal.returns-in_default-clause-bytes
returns-in_default-clause-bytes g c = omega arith

-- where the end is told, it is there
told_end : (told : Option ℕ) (start len : ℕ) → true ≡ option_eq nat_eq told (Some start) → IfSome told (λ end. end ≡ len)
    → start ≡ len
told_end None start len is told = absurd (true≢false is)
told_end (Some end) start len is told = sym (eqb-true end start (sym is)) ∙ told

pub returns-then-eq : goal.returns-then-eq
returns-then-eq g c =
    let filled = c.loop-filled.invariant in
    let within = rw filled.buffer at filled.within in
    record {
      len = filled.buffer;
      within = within;
      bytes = λ tells.
          filled_to_end (g.F.Stream.content c.args.file.now) (take c.loop-filled.filled c.loop-filled.buffer) c.args.offset
          c.loop-filled.filled (length c.args.buffer.now) c.in_ok-start.start within
          (filled.bytes tells) (told_end c.args.end c.in_ok-start.start _ c.if-eq.ensures (c.requires.end tells))
          c.in_ok-start.ensures.1;
    }

pub returns-in_err-start : goal.returns-in_err-start
returns-in_err-start g c = record {
  len = c.loop-filled.invariant.buffer;
  within = none_given _ _ c.from_residual.ensures;
  bytes = λ _. none_given _ _ c.from_residual.ensures;
}

pub returns-then-count-eq0-clause-bytes : goal.returns-then-count-eq0-clause-bytes
returns-then-count-eq0-clause-bytes g c = λ tells.
    let filled = c.loop-filled.invariant in
    let ended = rw c.in_ok-start.ensures.1 at ((c.in-Ok.ensures.bytes tells).end (rw c.if-count-eq0.true refl)) in
    take-kept c.loop-filled.buffer _ c.loop-filled.filled filled.within
    ∙ filled_all (g.F.Stream.content c.args.file.now) (take c.loop-filled.filled c.loop-filled.buffer) c.args.offset
    c.loop-filled.filled (length c.args.buffer.now) (rw filled.buffer at filled.within) (filled.bytes tells) ended
