use Rattle.std.proofs.Common.{◌≡◌, ◌+◌, ◌-◌, ◌*◌, ◌^◌, ◌≤◌, ◌++◌, lit<, ◌∙◌, length, drop, ap, sym, arith}
use Rattle.std.proofs.Math.Nat.{pow-le-pow_right}
use Rattle.std.proofs.lemmas.List.{length-drop, drop-drop}
use Rattle.b3_hash.proofs.Runs.{drop-behind}
use Rattle.b3_hash.proofs.Merging.{stack_of-append}
use Rattle.b3_hash.proofs.subtree_stack.SubtreeStack.push_all_but_last.Goals as goal

pub loop-rest-init : goal.loop-rest-init
loop-rest-init c =
    let none : 0 ≡ 1024 * (c.args.self.now.chunks - c.args.self.now.chunks) = omega arith in record {
      forward = omega arith;
      len = omega arith;
      rest = ap (λ k. drop k c.args.bytes.now) none;
      some = λ some. some;
      within = c.next_level-level.ensures.within;
      low = c.next_level-level.ensures.level;
      aligned = c.next_level-level.ensures.aligned;
      values = λ before len stack_is.
          stack_is
          ∙ sym (stack_of-append 54 0 c.args.mode.now before c.args.bytes.now c.args.self.now.chunks (omega arith));
    }

pub loop-rest-preserved : goal.loop-rest-preserved
loop-rest-preserved c =
    let bytes = c.args.bytes.now in
    let rest = c.loop-rest.rest.now in
    let start = c.args.self.now.chunks in
    let chunks = c.loop-rest.self.chunks in
    let count = c.push_first-count.result in
    let held = c.loop-rest.invariant in
    let more = c.push_first-count.ensures.more in
    let next = c.push_first-count.ensures.chunks in
    let back = c.split_at.ensures.back in
    let back_len = ap length back ∙ length-drop (1024 * count) rest in
    let further : 1024 * (chunks - start) + 1024 * count ≡ 1024 * (c.push_first-count.new.self.chunks - start) =
    omega (arith, next, held.forward) in record {
      forward = omega (arith, next, held.forward);
      len = omega (arith, next, held.len, back_len, more);
      rest = back
          ∙ ap (drop (1024 * count)) held.rest
          ∙ drop-drop (1024 * count) (1024 * (chunks - start)) bytes
          ∙ ap (λ k. drop k bytes) further;
      some = λ some. omega (arith, back_len, more);
      within = c.next_level-level-in-loop-rest.ensures.within;
      low = c.next_level-level-in-loop-rest.ensures.level;
      aligned = c.next_level-level-in-loop-rest.ensures.aligned;
      values = λ before len stack_is.
          let from : 1024 * start + 1024 * (chunks - start) ≡ 1024 * chunks = omega (arith, held.forward) in
          c.push_first-count.ensures.values (before ++ bytes)
          (held.rest
          ∙ sym (drop-behind before bytes (1024 * start) (1024 * (chunks - start)) len)
          ∙ ap (λ k. drop k (before ++ bytes)) from)
          (held.values before len stack_is);
    }

pub returns-clause-full : goal.returns-clause-full
returns-clause-full c = λ some.
    let level = c.loop-rest.level in
    let two : 2 ^ 1 ≤ 2 ^ level = pow-le-pow_right (lit< tt) some in
    omega (arith, two, c.subtree_len.ensures.value, c.loop-rest-test.false, c.loop-rest.invariant.within)

pub returns-then-rest-le-FEW_LEN-clause-values : goal.returns-then-rest-le-FEW_LEN-clause-values
returns-then-rest-le-FEW_LEN-clause-values c = λ before len stack_is.
    let bytes = c.args.bytes.now in
    let start = c.args.self.now.chunks in
    let chunks = c.loop-rest.self.chunks in
    let held = c.loop-rest.invariant in
    let from : 1024 * start + 1024 * (chunks - start) ≡ 1024 * chunks = omega (arith, held.forward) in
    c.push_few.ensures.values (before ++ bytes)
    (held.rest
    ∙ sym (drop-behind before bytes (1024 * start) (1024 * (chunks - start)) len)
    ∙ ap (λ k. drop k (before ++ bytes)) from)
    (held.values before len stack_is)
