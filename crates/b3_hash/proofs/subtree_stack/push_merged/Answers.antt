use Rattle.std.proofs.Common.{◌≡◌, ◌∙◌, ◌/◌, ◌-◌, ◌<◌, ◌^◌, ◌%◌, ◌++◌, ◌∷◌, [], count_ones, ap, sym, length, add-one}
use Rattle.std.proofs.Common.{◌+◌, lit<, arith}
use Rattle.std.specs.Int.Count.{ones_step}
use Rattle.std.proofs.lemmas.List.{length_push}
use Rattle.b3_core.specs.Nodes.{chaining}
use Rattle.b3_hash.proofs.ChunkCounts.{count_ones-even, count_ones-le, count_ones-odd, div-pow-suc, even-below}
use Rattle.b3_hash.proofs.ChunkCounts.{level-below, odd-at}
use Rattle.b3_hash.proofs.Merging.{IsMerged-none, IsMerged-odd, IsMerged-suc}
use Rattle.b3_hash.proofs.subtree_stack.push_merged.Goals as goal

pub unwrap-left-requires : goal.unwrap-left-requires
unwrap-left-requires c =
    let n = c.args.total / 2 ^ c.merges.counter in
    let even : n % 2 ≡ 0 = even-below c.args.total c.merges.counter c.requires.some (omega arith) c.merges-test.true in
    let some : 0 < length c.merges.values.items =
    omega (arith, count_ones-even n c.merges.invariant.some even, c.merges.invariant.len) in
    c.pop.ensures.variant.1 some

pub merges-preserved : goal.merges-preserved
merges-preserved c =
    let total = c.args.total in
    let level = c.merges.counter in
    let n = total / 2 ^ level in
    let even : n % 2 ≡ 0 = even-below total level c.requires.some (omega arith) c.merges-test.true in
    let some = c.merges.invariant.some in
    let half : total / 2 ^ (level + 1) ≡ n / 2 = rw add-one (div-pow-suc total level) in
    let popped : c.merges.values.items ≡ c.pop.new.self.items ++ c.unwrap-left.result ∷ [] =
    rw c.unwrap-left.ensures at c.pop.ensures.items in
    let next = c.chaining-value.ensures ∙ ap chaining c.parent_node.ensures in record {
      some = omega arith;
      len = omega (
        arith,
        ap length popped,
        length_push c.pop.new.self.items c.unwrap-left.result,
        count_ones-even n some even,
        c.merges.invariant.len,
        ap (λ k. count_ones (k - 1)) half,
      );
      ones = omega (arith, ap count_ones half, ones_step n, even, c.merges.invariant.ones);
      merged = λ digits base input few long last_is stack_is.
          IsMerged-suc c.args.mode.now input digits base total level c.merges.values.items c.pop.new.self.items
          c.merges.value
          c.unwrap-left.result c.chaining-value.result
          (c.merges.invariant.merged digits base input few long last_is stack_is)
          (level-below digits total level few some) long some even popped next;
    }

pub push-requires : goal.push-requires
push-requires c =
    let total = c.args.total in
    let level = c.merges.counter in
    let n = total / 2 ^ level in
    let odd : n % 2 ≡ 1 = odd-at total level c.requires.some (omega arith) (omega arith) in (
      lit< tt,
      omega (
        arith,
        count_ones-odd n odd,
        c.merges.invariant.len,
        c.merges.invariant.ones,
        count_ones-le 54 total c.requires.few,
      ),
    )

pub returns-clause-len : goal.returns-clause-len
returns-clause-len c =
    let total = c.args.total in
    let level = c.merges.counter in
    let n = total / 2 ^ level in
    let odd : n % 2 ≡ 1 = odd-at total level c.requires.some (omega arith) (omega arith) in
    omega (arith, count_ones-odd n odd, c.merges.invariant.len, c.merges.invariant.ones, c.push.ensures.len)

pub returns-clause-values : goal.returns-clause-values
returns-clause-values c = λ digits base input few long last_is stack_is.
    let total = c.args.total in
    let level = c.merges.counter in
    let odd : total / 2 ^ level % 2 ≡ 1 = odd-at total level c.requires.some (omega arith) (omega arith) in
    c.push.ensures.items
    ∙ IsMerged-odd c.args.mode.now input digits base total level c.merges.values.items c.merges.value
    (c.merges.invariant.merged digits base input few long last_is stack_is)
    (level-below digits total level few c.merges.invariant.some) odd

pub merges-init : goal.merges-init
merges-init c =
    let total = c.args.total in
    let one : total / 2 ^ 0 ≡ total = omega arith in record {
      some = omega (arith, c.requires.some);
      len = c.requires.len ∙ ap (λ k. count_ones (k - 1)) (sym one);
      ones = ap count_ones one;
      merged = λ digits base input few long last_is stack_is.
          IsMerged-none c.args.mode.now input digits base total c.args.values.now.items c.args.last last_is stack_is;
    }
