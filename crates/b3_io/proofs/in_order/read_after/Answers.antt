use Rattle.std.proofs.Common.{◌≤◌, ◌++◌, ◌∙◌, sym, ap, take, length, append_assoc, arith, rules}
use Rattle.b3_io.proofs.ReadLemmas.{take-read}
use Rattle.b3_io.proofs.in_order.read_after.Goals as goal

pub returns-clause-bytes : goal.returns-clause-bytes
returns-clause-bytes g c = λ told.
    let items = c.args.buffer.now in
    let filled = c.args.filled in
    let left = g.S.Shelf.left c.read.new.self in
    let gives = c.in_ok-count.ensures.bytes told in
    let n = c.in_ok-count.count in
    let buffer = c.read.new.buffer in
    let fits : n ≤ length buffer = search (arith, rules) in
    ap (λ bytes. take filled items ++ bytes) gives.parts
    ∙ sym (append_assoc (take filled items) (take n buffer) left)
    ∙ ap (λ bytes. bytes ++ left) (sym (take-read items buffer _ filled n (omega (arith, c.requires.not_full)) fits))
