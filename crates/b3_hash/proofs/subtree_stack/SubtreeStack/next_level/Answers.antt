use Rattle.std.proofs.Common.{◌≡◌, ◌+◌, ◌/◌, ◌%◌, ◌^◌, ◌<◌, ◌≤◌, max, ◌∙◌, inl, inr, suc, ap, subst, lit<, arith}
use Rattle.std.proofs.Math.Nat.{pow-le-pow_right, pow-suc}
use Rattle.std.proofs.lemmas.Bool.{cases_lt}
use Rattle.std.specs.Int.{w64, trailing_zeros}
use Rattle.b3_hash.proofs.ChunkCounts.{aligned-trailing, exponent-below, trailing-aligned, trailing-some}
use Rattle.b3_hash.proofs.subtree_stack.SubtreeStack.next_level.Goals as goal

pub returns-clause-within : goal.returns-clause-within
returns-clause-within c =
    let lower : 2 ^ c.min.result ≤ 2 ^ c.ilog2.result = pow-le-pow_right (lit< tt) (omega (arith, c.min.ensures)) in
    omega (arith, lower, c.ilog2.ensures.power_le, c.max-full.ensures)

pub returns-clause-level : goal.returns-clause-level
returns-clause-level c =
    exponent-below 54 c.min.result (max (c.args.len / 1024) 1) (omega (arith, returns-clause-within c)) (omega arith)

pub returns-clause-aligned : goal.returns-clause-aligned
returns-clause-aligned c =
    aligned-trailing c.min.result c.args.self.now.chunks (omega arith) (omega (arith, c.min.ensures))

pub returns-clause-largest : goal.returns-clause-largest
returns-clause-largest c = λ aligned.
    let chunks = c.args.self.now.chunks in
    elim (cases_lt (trailing_zeros w64 chunks) c.ilog2.result) [
      | inl lower ↦
          let level : c.min.result + 1 ≡ suc (trailing_zeros w64 chunks) = omega (arith, c.min.ensures) in
          let some : 0 < chunks = trailing-some chunks (omega (arith, c.ilog2.ensures.bound)) in
          absurd (trailing-aligned chunks some (omega arith) (subst (λ k. chunks % 2 ^ k ≡ 0) level aligned))
      | inr higher ↦
          let level : c.min.result ≡ c.ilog2.result = omega (arith, c.min.ensures) in
          let up : c.min.result + 1 ≡ suc c.min.result = omega arith in
          let power = ap (λ k. 2 ^ k) up ∙ pow-suc 2 c.min.result in
          let same = ap (λ k. 2 ^ k) level in
          omega (arith, power, same, c.ilog2.ensures.next_power_gt, c.max-full.ensures)
    ]
