use Rattle.std.proofs.Common.{◌++◌, take, rules}
use Rattle.b3_bench.proofs.tree_shelf.hash_content.Goals as goal

pub pieces-preserved : goal.pieces-preserved
pieces-preserved c =
    let before = c.pieces.invariant in
    record {
      so_far = before.so_far ++ take c.give-count.result c.give-count.new.buffer;
      stands = c.in-Ok.ensures.ok before.so_far before.stands;
      mode = search rules;
      len = search rules;
    }
