use Rattle.std.proofs.Common.{arith, IsTrue, List, OnOk, Option, Result, Ok, Err, Some, [], ap, is_ok, length, refl, sym, ℕ, ◌∙◌}
use Rattle.std.proofs.lemmas.Bool.{leb-true}
use Rattle.std.proofs.lemmas.Option.{slice_get_read}
use Rattle.std.specs.Option.{option_map_or}
use Rattle.b3_io.specs.declared.memory_shelf.StoredFile.{StoredFile}
use Rattle.b3_io.proofs.Stored.{content_among-first}
use Rattle.b3_io.proofs.memory_shelf.MemoryShelfShelf.hash_whole.Goals as goal

on_ok : {T E : Type 0} (r : Result T E) (P : Type 0) → IsTrue (is_ok r) → OnOk r P → P
on_ok (Ok x) P is p = p
on_ok (Err e) P is p = absurd (cc is)

pub returns-then-content-max_len-clause-content : goal.returns-then-content-max_len-clause-content
returns-then-content-max_len-clause-content c = λ is.
    let first = c.in-Some.ensures.found in
    let files = c.args.self.now.files.items in
    let file = slice_get_read files (length files) c.in-Some.k c.index.result.now refl first.within c.index.ensures in
    record {
      content = c.as_slice-content.result.now;
      has = content_among-first first
          ∙ ap (λ (o : Option StoredFile). Some (option_map_or (λ (file : StoredFile). file.content.items) o [])) file
          ∙ ap (λ (xs : List ℕ). Some xs) (sym c.as_slice-content.ensures.value);
      stands = on_ok c.update.result _ (rw c.is_ok.ensures.value at is) c.update.ensures.ok [] c.requires.fresh;
    }

pub returns-else-content-max_len-clause-content : goal.returns-else-content-max_len-clause-content
returns-else-content-max_len-clause-content c =
    λ is. absurd (omega (arith, leb-true _ _ is, c.if-content-max_len.false))
