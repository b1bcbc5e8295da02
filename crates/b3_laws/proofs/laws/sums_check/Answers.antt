use Rattle.std.proofs.Common.{◌∙◌, List, Some, ap, get_or, map, string_bytes, subst, ℕ}
use Rattle.b3_io.specs.Contents.{Contents}
use Rattle.b3_io.specs.MemoryShelves.{Puts, shelf_contents}
use Rattle.b3_io.specs.Scripts.{Report}
use Rattle.b3_laws.specs.Files.{known}
use Rattle.b3_laws.proofs.There.{IsThere-known, Puts-other, Puts-same, map-known}
use Rattle.b3_laws.proofs.laws.sums_check.Goals as goal

pub returns-clause-sums : goal.returns-clause-sums
returns-clause-sums g c are =
    let files = c.args.files.now in
    c.in_ok-sums.ensures.report (map known files)
    (ap (map string_bytes) c.deref.ensures.value ∙ c.in_ok-names.ensures ∙ map-known files)
    (IsThere-known (shelf_contents c.in_ok-shelf.shelf) files are.shown (λ k d within.
    c.in_ok-shelf.ensures.contents (string_bytes (get_or files k d).name) ∙ are.one_content k d within))

pub returns-clause-checks : goal.returns-clause-checks
returns-clause-checks g c are unlisted =
    let files = c.args.files.now in
    let middle = shelf_contents c.sum_names.new.shelf in
    let new = shelf_contents c.put.new.self in
    let list = string_bytes c.in_ok-name.name in
    let text = c.as_slice.result.now in
    let puts : Puts middle new list text =
    subst (λ (name : List ℕ). Puts middle new name text) c.as_str.ensures.value c.in_ok-put.ensures.ok in
    c.in_ok-checks.ensures.report (map known files)
    (Puts-same middle new list text puts
    ∙ ap Some (c.as_slice.ensures.value ∙ ap (λ (r : Report). r.out) (returns-clause-sums g c are)))
    (IsThere-known new files are.shown (λ k d within.
    let name = string_bytes (get_or files k d).name in
    Puts-other middle new list text name puts (λ same. unlisted k d within (same ∙ c.in_ok-name.ensures.ok))
    ∙ ap (λ (contents : Contents). contents name) c.sum_names.ensures.kept
    ∙ c.in_ok-shelf.ensures.contents name ∙ are.one_content k d within))
