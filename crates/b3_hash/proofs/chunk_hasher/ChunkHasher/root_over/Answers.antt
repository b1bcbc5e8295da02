use Rattle.std.proofs.Common.{◌≡◌, ℕ, ◌*◌, ◌%◌, ◌^◌, ◌≤◌, ◌<◌, ◌++◌, ◌∙◌, List, length, sym, ap, subst, arith}
use Rattle.std.proofs.lemmas.List.{drop_at, length-append}
use Rattle.b3_core.specs.Tree.{top}
use Rattle.b3_hash.specs.ChunkHashers.{IsAllClosed, ChunkHasherState}
use Rattle.b3_hash.proofs.Merging.{stack_of-append}
use Rattle.b3_hash.proofs.chunk_hasher.ChunkHasher.root_over.Goals as goal

pub returns : goal.returns
returns c =
    let inside = c.self.inside in
    let mode = inside.mode in
    let count = inside.closed.chunks in
    let last = c.args.last in
    subst (λ (s : ChunkHasherState). (level : ℕ) (before run : List ℕ) → level ≤ 54 → s.count % 2 ^ level ≡ 0
    → IsAllClosed s before → last ≡ top s.mode s.count run → length run ≤ 1024 * 2 ^ level
    → (0 < s.count → 0 < length run) → c.root.result ≡ top s.mode 0 (before ++ run)) c.self.view_is
    (λ level before run low aligned held last_is fits some.
    let whole = held.whole in
    let len = length-append before run in
    let within : 1024 * 2 ^ 0 * count ≤ length before =
    (let plain : 1024 * 1 * count ≤ length before = omega arith in plain) in
    let behind = drop_at before run (1024 * count) whole in
    c.root.ensures level (before ++ run) low aligned
    (held.stack ∙ sym (stack_of-append 54 0 mode before run count within))
    (last_is ∙ ap (top mode count) (sym behind))
    (λ positive. let more = some positive in omega arith)
    (omega (arith, len, whole, fits)))
