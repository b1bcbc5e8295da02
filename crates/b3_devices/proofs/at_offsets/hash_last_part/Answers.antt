use Rattle.std.proofs.Common.{IsSome, length, ◌≤◌, ◌≢◌, ◌-◌, ◌%◌, ◌/◌, ◌++◌, ◌∙◌, ap, sym, arith, rules}
use Rattle.std.proofs.lemmas.List.{take_all}
use Rattle.b3_core.specs.Tree.{top}
use Rattle.b3_core.specs.declared.modes.Mode.{Mode}
use Rattle.b3_hash.specs.Hashers.{length_of}
use Rattle.b3_hash.proofs.Standing.{length-StandsFor}
use Rattle.b3_devices.specs.Parts.{IsPartOf}
use Rattle.b3_devices.specs.declared.at_offsets.TheConstants.{REGION_LEN, REGION_LEVEL}
use Rattle.b3_devices.proofs.PartLemmas.{ended}
use Rattle.b3_devices.proofs.at_offsets.hash_last_part.Goals as goal

pub returns : goal.returns
returns g c =
    let shelf = g.S.Shelf in
    let hasher = c.args.hasher.now in
    let held = c.requires.hashed in
    let part : IsPartOf (shelf.told c.args.shelf.now) (shelf.left c.args.shelf.now) c.args.mode.now (length_of hasher)
    (c.args.len - length_of hasher) c.in_ok-last.last =
    rw c.len-offset.ensures.value at c.in_ok-last.ensures in
    let size = length-StandsFor hasher held.before held.stands in
    let some : length_of hasher ≢ c.args.len = search rules in
    record {
      content = held.before ++ part.bytes;
      whole = λ told. ended held part told (omega (arith, c.requires.whole told, c.requires.reached));
      output = c.finish_with.ensures REGION_LEVEL held.before part.bytes held.stands (omega arith)
          (ap (λ n. n % REGION_LEN) size ∙ held.aligned)
          (omega (arith, part.len_is, c.requires.last))
          (λ _. omega (arith, part.len_is, some, c.requires.reached))
          (part.node_is ∙ (λ i. top (sym held.mode_is i) (sym size i / 1024) part.bytes))
          ∙ ap (λ (mode : Mode). record { node = top mode 0 (held.before ++ part.bytes); place = 0 }) held.mode_is;
    }

pub returns-then-offset-len : goal.returns-then-offset-len
returns-then-offset-len g c =
    let held = c.requires.hashed in
    let size = length-StandsFor c.args.hasher.now held.before held.stands in
    let left = g.S.Shelf.left c.args.shelf.now in
    let short : (told : IsSome (g.S.Shelf.told c.args.shelf.now)) → length left ≤ length held.before =
    λ told. omega (arith, c.requires.whole told, size, c.len-offset.ensures.value, c.if-offset-len.true) in
    record {
      content = held.before;
      whole = λ told. sym (held.is told ∙ take_all (length held.before) left (short told));
      output = c.finish.ensures.output held.before held.stands
          ∙ ap (λ (mode : Mode). record { node = top mode 0 held.before; place = 0 }) held.mode_is;
    }
