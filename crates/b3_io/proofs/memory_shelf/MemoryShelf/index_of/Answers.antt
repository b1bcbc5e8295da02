use Rattle.std.proofs.Common.{◌<◌, ◌≡◌, true, false, length, get_or, string_bytes, bytes_eq, sym, ◌∙◌, ap, arith}
use Rattle.std.proofs.lemmas.List.{take_all}
use Rattle.b3_io.specs.MemoryShelves.{content_among}
use Rattle.b3_io.proofs.Stored.{content_among-take_more, first_at}
use Rattle.b3_io.proofs.memory_shelf.MemoryShelf.index_of.Goals as goal

pub returns-then-eq-clause-found : goal.returns-then-eq-clause-found
returns-then-eq-clause-found c =
    let same : bytes_eq (string_bytes c.file-item.result.name) c.args.name.now ≡ true =
    ap (λ bytes. bytes_eq bytes c.args.name.now) (sym c.as_str.ensures.value) ∙ sym c.if-eq.ensures in
    let is : c.file-item.result ≡ get_or c.args.self.now.files.items c.loop-k.k c.file-item.result =
    c.file-item.is ∙ ap (λ fs. get_or fs c.loop-k.k c.file-item.result) c.deref-file-items.ensures.value in
    let within : c.loop-k.k < length c.args.self.now.files.items = omega
    (arith, ap length c.deref-file-items.ensures.value) in
    first_at _ _ _ _ within c.loop-k.invariant is same

pub loop-k-preserved : goal.loop-k-preserved
loop-k-preserved c =
    let other : bytes_eq (string_bytes c.file-item.result.name) c.args.name.now ≡ false =
    ap (λ bytes. bytes_eq bytes c.args.name.now) (sym c.as_str.ensures.value) ∙ sym c.if-eq.ensures in
    let is : c.file-item.result ≡ get_or c.args.self.now.files.items c.loop-k.k c.file-item.result =
    c.file-item.is ∙ ap (λ fs. get_or fs c.loop-k.k c.file-item.result) c.deref-file-items.ensures.value in
    let within : c.loop-k.k < length c.args.self.now.files.items = omega
    (arith, ap length c.deref-file-items.ensures.value) in
    content_among-take_more _ _ _ c.file-item.result within c.loop-k.invariant is other

pub returns-clause-absent : goal.returns-clause-absent
returns-clause-absent c =
    let files = c.args.self.now.files.items in
    let all = take_all c.loop-k.k files (omega (arith, c.loop-k-test.false, ap length c.deref-file-items.ensures.value)) in
    ap (λ fs. content_among fs c.args.name.now) (sym all) ∙ c.loop-k.invariant
