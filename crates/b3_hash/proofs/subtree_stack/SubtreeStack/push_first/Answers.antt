use Rattle.std.proofs.Common.{◌≡◌, ◌*◌, ◌^◌, ◌∙◌, length, take, ap, sym, arith}
use Rattle.std.proofs.lemmas.List.{length-drop}
use Rattle.b3_core.specs.Nodes.{chaining}
use Rattle.b3_core.specs.Tree.{top}
use Rattle.b3_hash.specs.Stacks.{stack_of}
use Rattle.b3_hash.proofs.Runs.{subtree_chaining-at}
use Rattle.b3_hash.proofs.subtree_stack.SubtreeStack.push_first.Goals as goal

pub returns-clause-values : goal.returns-clause-values
returns-clause-values c input bytes_is stack_is =
    let mode = c.args.mode.now in
    let level = c.args.level in
    let chunks = c.args.self.now.chunks in
    let size : c.subtree_len.result ≡ 1024 * 2 ^ level = c.subtree_len.ensures.value in
    let len = ap length bytes_is ∙ length-drop (1024 * chunks) input in
    let value_is = c.chaining-value.ensures
    ∙ ap chaining (c.top.ensures.value ∙ ap (top mode chunks) (λ i. take (size i) (bytes_is i)))
    ∙ sym (subtree_chaining-at level mode input chunks c.requires.aligned) in
    c.push.ensures.values input (omega (arith, len, c.requires.subtree)) value_is stack_is
    ∙ ap (stack_of 54 0 mode input) (sym c.push.ensures.chunks)
