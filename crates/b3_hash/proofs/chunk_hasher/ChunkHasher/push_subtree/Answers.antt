use Rattle.std.proofs.Common.{◌≡◌, ◌%◌, ◌^◌, sym, subst}
use Rattle.b3_core.specs.Tree.{top}
use Rattle.b3_hash.specs.Private.{chunk_state_of}
use Rattle.b3_hash.specs.ChunkHashers.{IsAllClosed, ChunkHasherState}
use Rattle.b3_hash.proofs.Standing.{IsAllClosed-push}
use Rattle.b3_hash.proofs.chunk_hasher.ChunkHasher.push_subtree.Goals as goal

pub returns-clause-closed : goal.returns-clause-closed
returns-clause-closed c = λ before run held len node_is.
    let inside = c.self.inside in
    let node = c.args.node.now in
    let held = subst (λ (s : ChunkHasherState). IsAllClosed s before) (sym c.self.view_is) held in
    let aligned = subst (λ (s : ChunkHasherState). s.count % 2 ^ c.args.level ≡ 0) (sym c.self.view_is)
    c.requires.aligned in
    let node_is = subst (λ (s : ChunkHasherState). node ≡ top s.mode s.count run) (sym c.self.view_is) node_is in
    IsAllClosed-push inside.mode inside.closed.chunks c.push.new.self.chunks c.args.level inside.closed.values.items
    c.push.new.self.values.items (chunk_state_of inside.last) before run node c.chaining.result held len aligned node_is
    c.chaining.ensures c.push.ensures.chunks c.push.ensures.values
