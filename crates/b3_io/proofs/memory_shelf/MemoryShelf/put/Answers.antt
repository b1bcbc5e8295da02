use Rattle.std.proofs.Common.{refl}
use Rattle.b3_io.proofs.Stored.{puts_push, puts_set}
use Rattle.b3_io.proofs.memory_shelf.MemoryShelf.put.Goals as goal

pub returns-in-Some-clause-ok : goal.returns-in-Some-clause-ok
returns-in-Some-clause-ok c =
    puts_set c.args.bytes.now _ c.index_mut-file.result.now c.in-Some.ensures.found c.index_mut-file.ensures.value refl
    c.in_ok-content.ensures.items

pub returns-in_ok-push-in-None-clause-ok : goal.returns-in_ok-push-in-None-clause-ok
returns-in_ok-push-in-None-clause-ok c =
    rw c.in_ok-push-in-None.ensures.items
    (puts_push _ c.args.name.now c.args.bytes.now _ c.in-None.ensures.absent c.in_ok-name-in-None.ensures.ok
    c.in_ok-content.ensures.items)
