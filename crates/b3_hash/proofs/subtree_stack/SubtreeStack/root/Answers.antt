use Rattle.std.proofs.Common.{◌≡◌, ◌∙◌, ◌*◌, ◌++◌, ◌∷◌, [], ap, sym, drop, ◌+◌, ◌-◌, ◌/◌, ◌^◌, ◌<◌, arith}
use Rattle.std.proofs.lemmas.Nat.{pow_pos}
use Rattle.b3_hash.proofs.ChunkCounts.{runs-below, whole-runs}
use Rattle.b3_hash.proofs.Merging.{stack_of-runs}
use Rattle.std.proofs.lemmas.List.{nil_from_length}
use Rattle.b3_core.specs.Tree.{parent_node, top}
use Rattle.b3_hash.proofs.Roots.{root_of, root_of-push, root_of-stack}
use Rattle.b3_hash.proofs.subtree_stack.SubtreeStack.root.Goals as goal

pub loop-value-preserved : goal.loop-value-preserved
loop-value-preserved c =
    let node =
    c.parent_node-node.ensures ∙ ap (parent_node c.args.mode.now c.in-Some.value.now) c.chaining-right.ensures in
    let rest : c.loop-value.value-iterator.iter.rest.now ≡ c.next.new.self.iter.rest.now ++ c.in-Some.value.now ∷ [] =
    c.in-Some.ensures.steps in
    ap (root_of c.args.mode.now c.next.new.self.iter.rest.now) node
    ∙ sym (root_of-push c.args.mode.now c.next.new.self.iter.rest.now c.in-Some.value.now c.loop-value.node)
    ∙ ap (λ values. root_of c.args.mode.now values c.loop-value.node) (sym rest)
    ∙ c.loop-value.invariant

pub returns : goal.returns
unfolding root_of
returns c = λ level input low aligned stack_is last_is further fits.
    let mode = c.args.mode.now in
    let count = c.args.self.now.chunks in
    let n = count / 2 ^ level in
    let size : 0 < 2 ^ level = pow_pos level in
    let whole : 2 ^ level * n ≡ count = whole-runs level count aligned in
    let few : n < 2 ^ (54 - level) = runs-below level count aligned low c.args.self.now.few in
    let bytes : 1024 * 2 ^ level * n ≡ 1024 * count = search (arith, whole) in
    let upper : 1024 * 2 ^ level * (n + 1) ≡ 1024 * (count + 2 ^ level) = omega (arith, bytes) in
    let none : c.loop-value.value-iterator.iter.rest.now ≡ [] =
    nil_from_length c.loop-value.value-iterator.iter.rest.now c.in-None.ensures.steps.0 in
    let stack = stack_of-runs level mode input n count low whole in
    ap (λ left. root_of mode left c.loop-value.node) (sym none)
    ∙ c.loop-value.invariant
    ∙ (λ i. root_of mode (stack_is i) (last_is i))
    ∙ (λ i. root_of mode (stack i) (top mode (sym whole i) (drop (sym bytes i) input)))
    ∙ root_of-stack (54 - level) level mode input n few
    (λ some. let more = further (omega (arith, whole)) in omega (arith, bytes)) (omega (arith, upper))
