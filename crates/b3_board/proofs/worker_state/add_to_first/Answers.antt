use Rattle.std.proofs.Common.{ℕ, ◌+◌, arith, get_or, refl, set, sym}
use Rattle.std.specs.List.{length_refill}
use Rattle.std.proofs.lemmas.List.Sums.{get_or-le-sum_by}
use Rattle.b3_board.proofs.worker_state.add_to_first.Goals as goal

pub returns-clause-shares : goal.returns-clause-shares
returns-clause-shares c =
    let slice = c.as_mut_slice.result.now in
    sym (length_refill _ c.args.shares.now.items (set slice 0 (get_or slice 0 0 + c.args.count)) refl)

pub overflow_add-as_mut_slice : goal.overflow_add-as_mut_slice
overflow_add-as_mut_slice c =
    let first = get_or-le-sum_by (λ (n : ℕ). n) c.args.shares.now.items 0 0 c.requires.some in
    rw c.as_mut_slice.ensures.value (omega (arith, first, c.requires.few))
