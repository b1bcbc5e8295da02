use Rattle.std.proofs.Common.{◌≡◌, ℕ, ◌+◌, ◌<◌, length, arith, sym, subst, length-set}
use Rattle.std.proofs.lemmas.List.{get_or-set_same, get_or_default}
use Rattle.std.specs.Fork.{ChangesAt}
use Rattle.std.specs.Prelude.{slice_index_or, set}
use Rattle.b3_threads.proofs.threads.at_most_one.Goals as goal

pub returns : goal.returns
returns g c =
    let xs = c.args.s.now in
    let y = c.at_one.new.it in
    let R : ℕ → g.row.T.Denot → g.row.T.Denot → Type 0 = ChangesAt g.F.Fn c.args.f.now in
    record {
      len = length-set xs 0 y;
      each = λ k d lt.
          let zero_is : 0 ≡ k = omega (arith, lt, c.requires.short) in
          let some : 0 < length xs = omega (arith, lt) in
          subst (λ (n : ℕ). R (c.args.base + n) (slice_index_or xs n d) (slice_index_or (set xs 0 y) n d)) zero_is
          (subst (λ (n : ℕ). R n (slice_index_or xs 0 d) (slice_index_or (set xs 0 y) 0 d)) {x = c.args.base} (omega arith)
          (subst (R c.args.base (slice_index_or xs 0 d)) (sym (get_or-set_same xs 0 y d some))
          (subst (λ x. R c.args.base x y) (get_or_default xs 0 c.index-s-0.result d some) c.at_one.ensures)));
    }
