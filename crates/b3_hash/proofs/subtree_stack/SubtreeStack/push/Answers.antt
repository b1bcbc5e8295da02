use Rattle.std.proofs.Common.{◌≡◌, ◌+◌, ◌-◌, ◌*◌, ◌/◌, ◌%◌, ◌^◌, ◌<◌, ◌≤◌, ◌∙◌, ℕ, count_ones, sym, ap, arith}
use Rattle.b3_hash.specs.Stacks.{stack_of, subtree_chaining}
use Rattle.b3_hash.proofs.ChunkCounts.{count_ones-pow, next-below, next-run, shifted, whole-runs}
use Rattle.b3_hash.proofs.Merging.{stack_of-runs}
use Rattle.b3_hash.proofs.subtree_stack.SubtreeStack.push.Goals as goal

-- the number of runs, by the size of a run as it is computed
number-is : (level count : ℕ) → level < 54 → count / ((1 * 2 ^ level) % 18446744073709551616) ≡ count / 2 ^ level
number-is level count low = ap (λ s. count / s) (shifted level low)

pub push_merged-requires-clause-len : goal.push_merged-requires-clause-len
push_merged-requires-clause-len c =
    let level = c.args.level in
    let count = c.args.self.now.chunks in
    let t = count / 2 ^ level in
    let whole = whole-runs level count c.requires.aligned in
    let less : t ≡ t + 1 - 1 = omega arith in
    c.args.self.now.one_for_each_digit
    ∙ ap count_ones (sym whole)
    ∙ count_ones-pow level t
    ∙ ap count_ones less
    ∙ ap (λ n. count_ones (n + 1 - 1)) (sym (number-is level count c.requires.level))

pub invariant_of-self : goal.invariant_of-self
invariant_of-self c =
    let level = c.args.level in
    let count = c.args.self.now.chunks in
    let t = count / 2 ^ level in
    let size = shifted level c.requires.level in
    let few = c.requires.few in
    let next = next-run level count c.requires.aligned ∙ ap (λ s. count + s) (sym size) in record {
      few = omega (arith, size, few);
      one_for_each_digit = c.push_merged.ensures.len
          ∙ ap (λ n. count_ones (n + 1)) (number-is level count c.requires.level)
          ∙ sym (count_ones-pow level (t + 1))
          ∙ ap count_ones next;
    }

pub returns-clause-values : goal.returns-clause-values
returns-clause-values c = λ input long last_is stack_is.
    let level = c.args.level in
    let mode = c.args.mode.now in
    let count = c.args.self.now.chunks in
    let t = count / 2 ^ level in
    let number = number-is level count c.requires.level in
    let aligned = c.requires.aligned in
    let next = next-run level count aligned in
    let less : t ≡ t + 1 - 1 = omega arith in
    let before = less ∙ ap (λ n. n + 1 - 1) (sym number) in
    let few = next-below level count aligned c.requires.level c.requires.few in
    let bytes : 1024 * 2 ^ level * (t + 1) ≡ 1024 * (count + 2 ^ level) = search (arith, next) in
    let low : level ≤ 54 = omega (arith, c.requires.level) in
    c.push_merged.ensures.values (54 - level) level input (rw number few) (rw number (omega (arith, bytes, long)))
    (last_is ∙ ap (subtree_chaining mode level input) before)
    (stack_is
    ∙ stack_of-runs level mode input t count low (whole-runs level count aligned)
    ∙ ap (stack_of (54 - level) level mode input) before)
    ∙ ap (λ n. stack_of (54 - level) level mode input (n + 1)) number
    ∙ sym (stack_of-runs level mode input (t + 1) (count + 2 ^ level) low next)
