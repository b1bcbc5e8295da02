use Rattle.std.proofs.Common.{◌+◌, ◌∙◌}
use Rattle.b3_core.specs.Tree.{top}
use Rattle.b3_board.proofs.KnownNodes.{IsNodeOf-read}
use Rattle.b3_board.proofs.input_ledger.OwnDone.of_bytes.Goals as goal

pub invariant_of-result : goal.invariant_of-result
invariant_of-result g c =
    let l = g.L.InputLedger in
    let span = c.args.span in
    let node = c.top-node.ensures.value
    ∙ (λ i. top (c.requires.mode i) (c.requires.first i + span.first) c.args.bytes.now) in
    record {
      node_is = IsNodeOf-read l.input l.mode l.first span c.top-node.result c.args.bytes.now c.requires.inside
          c.requires.some c.requires.len c.requires.told node;
      chaining_is = c.chaining.ensures;
    }
