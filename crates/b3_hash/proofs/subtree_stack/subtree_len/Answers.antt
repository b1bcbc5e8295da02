use Rattle.std.proofs.Common.{◌^◌, ◌≤◌, lit<, arith}
use Rattle.std.proofs.Math.Nat.{pow-le-pow_right}
use Rattle.std.proofs.lemmas.Nat.{pow_pos}
use Rattle.b3_hash.proofs.subtree_stack.subtree_len.Goals as goal

pub returns-clause-value : goal.returns-clause-value
returns-clause-value c =
    let below : c.args.level ≤ 53 = omega (arith, c.requires) in
    let few : 2 ^ c.args.level ≤ 2 ^ 53 = pow-le-pow_right (lit< tt) below in
    omega (arith, few)

pub returns-clause-some : goal.returns-clause-some
returns-clause-some c = omega (arith, returns-clause-value c, pow_pos c.args.level)
