use Rattle.std.proofs.Common.{inl, inr, rules, arith, ◌≡◌}
use Rattle.std.proofs.lemmas.Bool.{cases_lt}
use Rattle.b3_board.proofs.Finding.{above_high, below_low, first_le}
use Rattle.b3_board.proofs.entries.find.Goals as goal
use Rattle.b3_board.proofs.entries.find.Goals.{else-low-entries-via-then-low-entries+else-entries-low, else-low-entries-via-else-low-entries}

pub loop-low-preserved-then-entries-middle : goal.loop-low-preserved-then-entries-middle
loop-low-preserved-then-entries-middle c = record {
  ordered = omega arith;
  inside = c.loop-low.invariant.inside;
  below = below_low c.args.entries.now c.args.first _ c.requires (omega (
    arith,
    c.loop-low.invariant.inside,
    c.loop-low-test.true,
  )) (search rules);
  above = c.loop-low.invariant.above;
}

pub loop-low-preserved : goal.loop-low-preserved
loop-low-preserved c = record {
  ordered = omega arith;
  inside = omega (arith, c.loop-low.invariant.inside, c.loop-low-test.true);
  below = c.loop-low.invariant.below;
  above = above_high c.args.entries.now c.args.first _ c.requires (search rules);
}

pub returns-else-low-entries-clause-none : goal.returns-else-low-entries-clause-none
returns-else-low-entries-clause-none c = λ i short same.
    let low = c.loop-low.low in
    let meets : c.loop-low.low ≡ c.loop-low.high = omega (arith, c.loop-low.invariant.ordered, c.loop-low-test.false) in
    elim (cases_lt i c.loop-low.low) [
      | inl less ↦ let h = c.loop-low.invariant.below i less in omega arith
      | inr more ↦
          elim c.else-low-entries.branch [
            | else-low-entries-via-then-low-entries+else-entries-low w ↦
                let a = c.loop-low.invariant.above c.loop-low.low (omega arith) w.if-low-entries.true in
                let b = first_le c.args.entries.now c.requires c.loop-low.low i more short in
                w.if-entries-low.false (omega arith)
            | else-low-entries-via-else-low-entries w ↦ omega (arith, w.if-low-entries.false)
          ]
    ]
