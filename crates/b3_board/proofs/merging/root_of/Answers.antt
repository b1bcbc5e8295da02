use Rattle.std.proofs.Common.{rules, arith, refl, ap}
use Rattle.std.proofs.lemmas.Bool.{false≢true}
use Rattle.b3_board.specs.Entries.{at, is_kept}
use Rattle.b3_board.proofs.Partners.{what_is_kept}
use Rattle.b3_board.proofs.OpenSpans.{none_open, root_there, root_top}
use Rattle.b3_board.proofs.merging.root_of.Goals as goal
use Rattle.b3_board.proofs.merging.root_of.Goals.{then-is_empty-via-then-is_empty, then-is_empty-via-else-is_empty+then-entries-size}

pub returns-then-is_empty-clause-there : goal.returns-then-is_empty-clause-there
returns-then-is_empty-clause-there g c = (
  λ h. absurd (false≢true h),
  λ none.
      let of = g.L.InputLedger in
      let there = root_there of.input of.mode of.first c.args.entries.now c.requires none in
      elim c.then-is_empty.branch [
        | then-is_empty-via-then-is_empty w ↦ absurd (search (rules, arith, there.2, w.if-is_empty.true))
        | then-is_empty-via-else-is_empty+then-entries-size w ↦ absurd (omega (
          arith,
          there.1,
          w.size.ensures.count,
          w.if-entries-size.true,
        ))
      ],
)

pub returns-in-Kept-clause-top : goal.returns-in-Kept-clause-top
returns-in-Kept-clause-top g c =
    let of = g.L.InputLedger in
    root_top of.input of.mode of.first c.args.entries.now c.requires c.in-Kept.kept c.in-Kept.is
    (search (rules, c.size.ensures.count))

pub returns-in-Kept-clause-there : goal.returns-in-Kept-clause-there
returns-in-Kept-clause-there g c =
    let of = g.L.InputLedger in (
      λ h.
          none_open of.input of.mode of.first c.args.entries.now c.requires (ap is_kept c.in-Kept.is)
          (search (rules, c.size.ensures.count)),
      λ h. refl,
    )

pub returns-in_default-clause-there : goal.returns-in_default-clause-there
returns-in_default-clause-there g c = (
  λ h. absurd (false≢true h),
  λ none.
      let of = g.L.InputLedger in
      let there = root_there of.input of.mode of.first c.args.entries.now c.requires none in
      let kept = what_is_kept (at c.args.entries.now 0).state there.0 in
      absurd (c.in_default.not-Kept kept.0 kept.1),
)
