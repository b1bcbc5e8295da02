use Rattle.std.proofs.Common.{sym, ◌<◌, ◌≡◌, ◌+◌, ◌∙◌, length, min, take, drop, get_or, ap, arith}
use Rattle.std.proofs.lemmas.List.{length-take-le, take_rest}
use Rattle.b3_io.proofs.Stored.{shelf_gives_at}
use Rattle.b3_io.proofs.memory_shelf.MemoryShelfShelf.read_at.Goals as goal

pub returns-clause-bytes : goal.returns-clause-bytes
returns-clause-bytes c = λ _.
    let shelf = c.args.self.now in
    let files = shelf.files.items in
    let within : c.in_ok-k.k < length files = omega
    (arith, ap length c.deref.ensures.value, c.in_ok-file.ensures.lookup.3.0) in
    let is : c.in_ok-file.file.now ≡ get_or files c.in_ok-k.k c.in_ok-file.file.now =
    c.in_ok-file.ensures.lookup.1 ∙ ap (λ fs. get_or fs c.in_ok-k.k c.in_ok-file.file.now) c.deref.ensures.value in
    let begun_is = c.in_ok-k.was in
    let content = c.deref-2.result.now in
    let start_is : c.in_ok-start.start ≡ shelf.consumed + c.args.offset = c.in_ok-start.ensures.1 in
    let rest_is = take_rest content c.in_ok-start.start ∙ ap (λ n. drop n content) start_is in
    shelf_gives_at files shelf.begun c.in_ok-k.k shelf.consumed c.args.offset c.min-count.result c.in_ok-file.file.now
    content c.args.buffer.now c.copy_from_slice.new.self begun_is within is c.deref-2.ensures.value
    (c.min-count.ensures ∙ ap (λ bytes. min (length bytes) (length c.args.buffer.now)) rest_is)
    (c.copy_from_slice.ensures.after ∙ c.split_at.ensures.front ∙ ap (take c.min-count.result) rest_is)

pub copy_from_slice-requires : goal.copy_from_slice-requires
copy_from_slice-requires c =
    length-take-le _ _ (omega (arith, c.min-count.ensures)) ∙ sym c.split_at.ensures.front_len

pub slice_bounds-copy_from_slice-end-2 : goal.slice_bounds-copy_from_slice-end-2
slice_bounds-copy_from_slice-end-2 c = sym (length-take-le _ _ (omega (arith, c.min-count.ensures)))
