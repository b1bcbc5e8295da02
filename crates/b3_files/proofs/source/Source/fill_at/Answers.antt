use Rattle.std.proofs.Common.{◌≡◌, ℕ, ◌+◌, List, Option, IfSome, take, drop, refl, ap, ◌∙◌, arith}
use Rattle.std.proofs.lemmas.List.{drop-drop}
use Rattle.std.proofs.lemmas.Grind.{common_steps}
use Rattle.b3_files.proofs.Filling.{none_given}
use Rattle.b3_files.proofs.Telling.{both_tell}
use Rattle.b3_files.proofs.source.Source.fill_at.Goals as goal

-- the rest behind an offset
rest_behind : (content buffer : List ℕ) (given : Option ℕ) (start consumed offset place len : ℕ)
    → IfSome given (λ n. take n buffer ≡ take len (drop (start + place) content)) → place ≡ consumed + offset
    → IfSome given (λ n. take n buffer ≡ take len (drop offset (drop (start + consumed) content)))
rest_behind content buffer given start consumed offset place len filled is =
    let same : drop offset (drop (start + consumed) content) ≡ drop (start + place) content =
    drop-drop offset (start + consumed) content ∙ ap (λ k. drop k content) (omega (arith, is)) in
    rw same filled

pub returns-in_err-start : goal.returns-in_err-start
returns-in_err-start g c = record {
  len = refl;
  within = none_given _ _ c.from_residual.ensures;
  bytes = λ _. none_given _ _ c.from_residual.ensures;
}

pub returns-in-Reopened : goal.returns-in-Reopened
returns-in-Reopened g c =
    let filled = c.fill_at-in-Reopened.ensures in
    let file = c.in-Reopened.file in
    record {
      len = filled.len;
      within = filled.within;
      bytes = λ tells.
          let told = (both_tell g.I.Stream.tells g.P.Stream.tells (rw c.in-Reopened.is at tells)).1 in
          -- the offset is not named, so that a wrong one is refused here
          rw c.in-Reopened.is (rest_behind (g.P.Stream.content file.file) c.fill_at-in-Reopened.new.buffer
          c.fill_at-in-Reopened.result file.start c.args.consumed c.args.offset _ _ (filled.bytes told) (omega arith));
    }

pub returns-in-Opened-clause-bytes : goal.returns-in-Opened-clause-bytes
returns-in-Opened-clause-bytes g c = grind (arith, common_steps)
