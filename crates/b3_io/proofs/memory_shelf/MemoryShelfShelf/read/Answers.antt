use Rattle.std.proofs.Common.{sym, ◌∙◌, ◌<◌, ◌≡◌, length, min, get_or, ap, arith}
use Rattle.std.proofs.lemmas.List.{length-take-le}
use Rattle.b3_io.proofs.Stored.{shelf_gives}
use Rattle.b3_io.proofs.memory_shelf.MemoryShelfShelf.read.Goals as goal

pub returns-clause-bytes : goal.returns-clause-bytes
returns-clause-bytes c = λ _.
    let files = c.args.self.now.files.items in
    let within : c.in-Some.k < length files = omega
    (arith, ap length c.deref.ensures.value, c.in-Some-get.ensures.lookup.3.0) in
    let is : c.in-Some-get.file.now ≡ get_or files c.in-Some.k c.in-Some-get.file.now =
    c.in-Some-get.ensures.lookup.1 ∙ ap (λ fs. get_or fs c.in-Some.k c.in-Some-get.file.now) c.deref.ensures.value in
    let start : c.min.result ≡ min c.args.self.now.consumed (length c.deref-2.result.now) =
    c.min.ensures ∙ ap (min c.args.self.now.consumed) (c.len.ensures ∙ sym c.deref-2.ensures.len) in
    shelf_gives files c.args.self.now.begun c.in-Some.k _ _ c.min.result c.in-Some-get.file.now c.deref-2.result.now
    c.args.buffer.now _
    c.in-Some.is within is c.deref-2.ensures.value start c.min-count.ensures c.copy_from_slice.ensures.after
    c.requires.buffer

pub slice_bounds-copy_from_slice-end-3 : goal.slice_bounds-copy_from_slice-end-3
slice_bounds-copy_from_slice-end-3 c = sym (length-take-le _ _ (omega (arith, c.min-count.ensures)))

pub slice_bounds-copy_from_slice-end-2 : goal.slice_bounds-copy_from_slice-end-2
slice_bounds-copy_from_slice-end-2 c = sym (length-take-le _ _ (omega (arith, c.min-count.ensures)))
