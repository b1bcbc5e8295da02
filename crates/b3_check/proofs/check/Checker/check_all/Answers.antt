use Rattle.std.proofs.Common.{◌≡◌, ℕ, ◌+◌, ◌*◌, ◌^◌, ◌<◌, ◌≤◌, List, ◌∷◌, length, ◌∙◌, ap, arith, refl, subst, sym}
use Rattle.std.proofs.lemmas.Result.{err_from_is_err_and}
use Rattle.b3_devices.specs.Devices.{io_state_of}
use Rattle.b3_io.specs.Operands.{Operand, operand_of}
use Rattle.b3_io.specs.Runs.{CanCount, IoState}
use Rattle.b3_io.specs.Tasks.{counted}
use Rattle.b3_io.specs.declared.options.CheckOptions.{CheckOptions}
use Rattle.b3_io.specs.declared.tally.Tally.{Tally}
use Rattle.b3_io.proofs.CheckLemmas.{ListsSoFar, lists_all, lists_counted, lists_failures, lists_more, lists_none, lists_room, lists_stopped}
use Rattle.b3_check.proofs.Ends.{both_fit}
use Rattle.b3_check.proofs.check.Checker.check_all.Goals as goal

-- the lists before this one are checked
at_list : {options : CheckOptions} {all left rest : List Operand} {list : Operand} {a b : IoState} {m : Tally}
    → ListsSoFar options all left a b m → left ≡ list ∷ rest → ListsSoFar options all (list ∷ rest) a b m
at_list {options} {all} {left} {rest} {list} {a} {b} {m} so_far is =
    subst (λ (ls : List Operand). ListsSoFar options all ls a b m) is so_far

at_options : {options same : CheckOptions} {all left : List Operand} {a b : IoState} {m n : Tally} → options ≡ same → n ≡ m
    → ListsSoFar options all left a b m → ListsSoFar same all left a b n
at_options is counted so_far = rw (← is, counted) so_far

-- the counts of this one fit
at_counts : {options : CheckOptions} {all rest : List Operand} {list : Operand} {a b : IoState} {m : Tally}
    (same : CheckOptions) (n : Tally) → length all ≤ 2 ^ 30 → options.largest ≤ 2 ^ 30 → same.largest ≤ 2 ^ 30
    → ListsSoFar options all (list ∷ rest) a b m → counted n ≤ 2 * (1 + same.largest) → counted m + counted n < 2 ^ 64
at_counts same n few small also so_far count = omega (arith, lists_counted few small so_far, count, also)

-- the failures so far, at a fault in this one
at_fault : {options same : CheckOptions} {all rest : List Operand} {list : Operand} {a b : IoState} {m : Tally}
    (failures : ℕ) → ListsSoFar options all (list ∷ rest) a b m → same ≡ options
    → failures ≤ b.failures + (1 + same.largest) → failures ≤ a.failures + length all * (1 + options.largest)
at_fault failures so_far is count =
    lists_failures failures so_far (omega (arith, count, ap (λ (o : CheckOptions). o.largest) is))

pub returns-in_err-one-clause-run : goal.returns-in_err-one-clause-run
returns-in_err-one-clause-run g c =
    let p = err_from_is_err_and c.from_residual.result c.from_residual.ensures.1 in
    let held = c.loop-list.invariant in
    let so_far = at_list held.so_far c.in-Some.ensures.next in
    let stopped = rw held.options at c.in_err-one.ensures.run in
    rw (p.1, p.2) (lists_stopped (operand_of c.in-Some.list) so_far stopped)

pub loop-list-init : goal.loop-list-init
loop-list-init g c = record { so_far = lists_none c.none-tally.ensures; loans = refl; options = refl }

pub loop-list-preserved : goal.loop-list-preserved
loop-list-preserved g c =
    let held = c.loop-list.invariant in
    let one = c.in_ok-one.ensures in
    record {
      so_far = at_options held.options c.add.ensures (lists_more (operand_of c.in-Some.list)
          (at_options (sym held.options) refl (at_list held.so_far c.in-Some.ensures.next)) one.run one.count one.shelf_count);
      loans = one.loans ∙ held.loans;
      options = one.options ∙ held.options;
    }

pub add-requires : goal.add-requires
add-requires g c =
    let so_far = at_list c.loop-list.invariant.so_far c.in-Some.ensures.next in
    both_fit c.loop-list.tally c.in_ok-one.one (at_counts c.loop-list.self.options c.in_ok-one.one c.requires.lists
    c.args.self.now.largest c.loop-list.self.largest so_far c.in_ok-one.ensures.count)

pub check_operand-requires-after_bounds : goal.check_operand-requires-after_bounds
check_operand-requires-after_bounds g c = λ _ _.
    let held = c.loop-list.invariant in
    subst (λ (options : CheckOptions). CanCount (io_state_of g.S.Shelf g.O.Sink g.E.Sink c.loop-list.devices)
    (1 + options.largest)) (sym held.options) (lists_room c.requires.countable (at_list held.so_far c.in-Some.ensures.next))

pub returns-in_err-one-clause-shelf_count : goal.returns-in_err-one-clause-shelf_count
returns-in_err-one-clause-shelf_count g c =
    let held = c.loop-list.invariant in
    at_fault _ (at_list held.so_far c.in-Some.ensures.next) held.options c.in_err-one.ensures.shelf_count

pub returns-clause-run : goal.returns-clause-run
returns-clause-run g c = (lists_all c.in_default.ensures.next c.loop-list.invariant.so_far).0

pub returns-clause-count : goal.returns-clause-count
returns-clause-count g c = (lists_all c.in_default.ensures.next c.loop-list.invariant.so_far).1

pub returns-clause-shelf_count : goal.returns-clause-shelf_count
returns-clause-shelf_count g c = (lists_all c.in_default.ensures.next c.loop-list.invariant.so_far).2
