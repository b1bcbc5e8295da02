use Rattle.std.proofs.Common.{ℕ, ◌+◌, refl, arith, subst}
use Rattle.std.specs.Fork.{ChangesAt}
use Rattle.std.specs.Prelude.{slice_index_or}
use Rattle.b3_threads.proofs.threads.for_each_beside.Goals as goal

pub returns-clause-each : goal.returns-clause-each
returns-clause-each g c i d lt =
    let xs = c.args.s.now in
    let ys = c.all_from.new.s in
    let R : ℕ → g.row.T.Denot → g.row.T.Denot → Type 0 = ChangesAt g.F.Fn c.args.f.now in (
      refl,
      subst (λ (n : ℕ). R n (slice_index_or xs i d) (slice_index_or ys i d)) {x = 0 + i} (omega arith)
          (c.all_from.ensures.each i d lt),
    )
