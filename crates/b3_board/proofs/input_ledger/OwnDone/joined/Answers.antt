use Rattle.std.proofs.Common.{◌≡◌, ◌+◌, ◌<◌, ◌≤◌, ◌∙◌, arith, sym, subst, ap}
use Rattle.b3_core.specs.Tree.{IsLeft, chunks, parent_node}
use Rattle.b3_core.specs.declared.spans.Span.{Span}
use Rattle.b3_board.specs.BoardStates.{Piece}
use Rattle.b3_board.proofs.KnownNodes.{IsNodeOf-halves}
use Rattle.b3_board.proofs.input_ledger.OwnDone.joined.Goals as goal

pub invariant_of-result : goal.invariant_of-result
invariant_of-result g c =
    let l = g.L.InputLedger in
    let front = c.front.inside in
    let back = c.back.inside in
    let fs : front.span ≡ c.args.front.span = ap (λ (p : Piece). p.span) c.front.view_is in
    let bs : back.span ≡ c.args.back.span = ap (λ (p : Piece). p.span) c.back.view_is in
    let ff = ap (λ (s : Span). s.first) fs in
    let fc = ap (λ (s : Span). s.count) fs in
    let bf = ap (λ (s : Span). s.first) bs in
    let bc = ap (λ (s : Span). s.count) bs in
    let next : back.span.first ≡ front.span.first + front.span.count =
    omega (arith, ff, fc, bf, c.requires.next) in
    let halves : IsLeft (front.span.count + back.span.count) front.span.count =
    subst (λ (s : Span). IsLeft (s.count + back.span.count) s.count) (sym fs)
    (subst (λ (s : Span). IsLeft (c.args.front.span.count + s.count) c.args.front.span.count) (sym bs) c.requires.halves) in
    let inside : back.span.first + back.span.count ≤ chunks l.input.len = omega (arith, bf, bc, c.requires.inside) in
    let some : 0 < back.span.count = omega (arith, bc, c.requires.some) in
    let joined = IsNodeOf-halves l.input l.mode l.first front.span.first front.span.count back.span.first back.span.count
    front.node back.node next halves some inside c.front.invariant.node_is c.back.invariant.node_is in
    record {
      node_is = record {
        bytes = joined.bytes;
        may_be = joined.may_be;
        is_top = c.parent_node-node.ensures
            ∙ (λ i. parent_node (c.requires.mode i) (c.front.invariant.chaining_is i) (c.back.invariant.chaining_is i))
            ∙ joined.is_top;
      };
      chaining_is = c.chaining.ensures;
    }
