use Rattle.std.proofs.Common.{ℕ, ◌+◌, [], refl, ◌++◌, ◌∙◌, Result, Ok, Err, IsSome, OnErr, take, sym, subst, arith, rules}
use Rattle.std.proofs.lemmas.List.{length-take-le}
use Rattle.b3_io.specs.Reading.{IsFilled, is_unread}
use Rattle.b3_io.proofs.ReadLemmas.{read_none, read_endless, read_more}
use Rattle.b3_io.proofs.in_order.hash_in_order.Goals as goal

pub fills-preserved : goal.fills-preserved
fills-preserved g c =
    let filled = rw c.in-Some.is at c.in_ok-count.ensures.filled in
    let held = c.fills.invariant in
    let buffer = c.fill.new.buffer in
    let n = c.in-Some.count in
    let full = c.if-count-buffer.false in
    let len = length-take-le n buffer filled.within in
    let added = rw c.unwrap.ensures at c.update.ensures.len in
    let count = rw c.in-Some.is at c.in_ok-count.ensures.count in
    let shelf = g.S.Shelf in
    let told : IsFilled (shelf.told c.args.shelf.now) (shelf.left c.fills.shelf) (shelf.left c.fill.new.shelf) buffer
    c.fills.left c.fill.new.turns n =
    subst (λ told. IsFilled told (shelf.left c.fills.shelf) (shelf.left c.fill.new.shelf) buffer c.fills.left
    c.fill.new.turns n) held.told filled in record {
      before = held.before ++ take n buffer;
      stands = (rw c.unwrap.ensures at c.update.ensures.ok) held.before held.stands;
      read = read_more held.read told full;
      mode = c.update.ensures.mode ∙ held.mode;
      few = omega (
        arith,
        held.few,
        added,
        len,
        filled.within,
        filled.fewer,
        c.fill.auto.buffer,
        c.fills.auto.buffer,
        c.requires.most,
      );
      some = filled.some (omega (arith, filled.within, full));
      count = omega (arith, count, held.count);
      told = c.fill.ensures.told ∙ held.told;
      still_sure = c.fill.ensures.still_sure ∙ held.still_sure;
    }

-- what holds in any case
on_fault : {T E : Type 0} (r : Result T E) (P : Type 0) → P → OnErr r P
on_fault (Ok x) P holds = tt
on_fault (Err e) P holds = holds

pub returns-in_err-count-clause-endless : goal.returns-in_err-count-clause-endless
returns-in_err-count-clause-endless g c =
    let held = c.fills.invariant in
    on_fault c.from_residual.result _
    (read_endless held.read (λ is. c.in_err-count.ensures.endless (subst IsSome (sym held.told) is)))

pub returns-then-count-buffer-clause-whole : goal.returns-then-count-buffer-clause-whole
returns-then-count-buffer-clause-whole g c = search rules

pub returns-then-count-buffer-clause-count : goal.returns-then-count-buffer-clause-count
returns-then-count-buffer-clause-count g c =
    c.in_ok-count.ensures.count ∙ (λ j. c.fills.invariant.count j + is_unread {T = ℕ} (Ok (c.in-Some.is j)))

pub returns-in_default-clause-count : goal.returns-in_default-clause-count
returns-in_default-clause-count g c =
    c.in_ok-count.ensures.count ∙ (λ j. c.fills.invariant.count j + is_unread {T = ℕ} (Ok (c.in_default.is j)))

pub fills-init : goal.fills-init
fills-init g c =
    record {
      before = [];
      stands = c.new-hasher.ensures.stands_for;
      read = read_none _ _ _;
      mode = c.new-hasher.ensures.mode;
      few = omega (arith, c.new-hasher.ensures.len);
      some = c.requires.some_turns;
      count = refl;
      told = refl;
      still_sure = refl;
    }

pub fills-smaller : goal.fills-smaller
fills-smaller g c =
    let filled = rw c.in-Some.is at c.in_ok-count.ensures.filled in
    filled.fewer
