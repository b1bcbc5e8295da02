use Rattle.std.proofs.Common.{arith, ◌∙◌}
use Rattle.b3_core.specs.Tree.{chunks}
use Rattle.b3_board.proofs.Partners.{kept_some, siblings_fit}
use Rattle.b3_core.proofs.Siblings.{IsSubtree-had}
use Rattle.b3_board.proofs.merging.merge_up.Goals as goal

pub find_sibling-requires-clause-subtree : goal.find_sibling-requires-clause-subtree
find_sibling-requires-clause-subtree g c =
    let now = c.loop-other.invariant in
    let here = c.loop-other.here in
    let subtree = now.sound.subtrees here (kept_some _ _ now.kept (now.sound.fits here)) in
    let up = IsSubtree-had (chunks g.L.InputLedger.input.len) _ _ (omega arith) subtree in
    rw c.size-n.ensures.count up

pub loop-other-preserved : goal.loop-other-preserved
loop-other-preserved g c =
    let now = c.loop-other.invariant in
    let joined = c.join_siblings-here.ensures in
    record {
      inside = joined.inside;
      kept = joined.kept;
      sound = joined.sound;
      apart = joined.apart;
      same_chunks = λ k. joined.same_chunks k ∙ now.same_chunks k;
      same_count = joined.same_count ∙ now.same_count;
      same_open = joined.same_open ∙ now.same_open;
    }

pub loop-other-smaller : goal.loop-other-smaller
loop-other-smaller g c =
    let now = c.loop-other.invariant in
    let found = c.in-Some.ensures.found in
    let fit = siblings_fit _ _ _ (omega arith) found.2 in
    let some = kept_some _ _ found.1 (now.sound.fits c.in-Some.other) in
    omega (arith, fit, some, c.size-n.ensures.count, c.join_siblings-here.ensures.grows)

pub join_siblings-here-requires-clause-siblings : goal.join_siblings-here-requires-clause-siblings
join_siblings-here-requires-clause-siblings g c = rw c.size-n.ensures.count at c.in-Some.ensures.found.2

pub join_siblings-here-requires-clause-apart : goal.join_siblings-here-requires-clause-apart
join_siblings-here-requires-clause-apart g c = c.loop-other.invariant.apart
