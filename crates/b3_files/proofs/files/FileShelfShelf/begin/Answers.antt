use Rattle.std.proofs.Common.{◌≡◌, ℕ, true, false, not, List, Some, Result, Ok, Err, bytes_eq, rules, refl, sym, ◌∙◌, ap}
use Rattle.std.proofs.lemmas.Bool.{false≢true, true≢false, not-false, not-true}
use Rattle.std.proofs.lemmas.Slice.Eq.{bytes_eq-Decides}
use Rattle.std.specs.IoError.{error_kind}
use Rattle.b3_io.specs.Contents.{input_name}
use Rattle.b3_io.specs.declared.shelf.NoContent.{NoContent}
use Rattle.b3_io.specs.declared.shelf.NoContent.TheVariants.{Missing, CannotRead}
use Rattle.b3_files.proofs.Telling.{is_other, none_more, under_input, under_other}
use Rattle.b3_files.proofs.files.FileShelfShelf.begin.Goals as goal

-- the name is the input's, or it is not
is_input : (name : List ℕ) → false ≡ not (bytes_eq name input_name) → name ≡ input_name
is_input name is = (bytes_eq-Decides name input_name).0 (not-false _ (sym is))

differs : (name : List ℕ) → true ≡ not (bytes_eq name input_name) → bytes_eq name input_name ≡ false
differs name other = not-true _ (sym other)

same_why : {T : Type 0} (a b : NoContent) → ◌≡◌ {A = Result T NoContent} (Err a) (Err b) → a ≡ b
same_why a b is = cc

not_missing : {T : Type 0} → ◌≡◌ {A = Result T NoContent} (Err CannotRead) (Err Missing) → ⊥
not_missing is = cc

begun : {T : Type 0} (x : T) → Ok x ≡ Err Missing → ⊥
begun x is = cc

pub returns-in-Err : goal.returns-in-Err
returns-in-Err g c = record {
  count = refl;
  begun = rw c.turn_to.ensures refl;
  content = λ _ _ _. tt;
  missing = λ tells is.
      under_other (g.D.Disk.contents c.args.self.now.disk) _ c.args.name.now (differs c.args.name.now c.if-ne.ensures)
      ∙ c.in-Err.ensures.missing tells (c.no_content_for.ensures.0 (same_why _ _ is));
  refused = λ _. record {
    kind = error_kind c.in-Err.error;
    may = c.in-Err.ensures.error;
    missing = c.no_content_for.ensures;
  };
  input = λ is. absurd (is_other c.args.name.now (sym (differs c.args.name.now c.if-ne.ensures)) is);
  input_there = λ is _. is_other c.args.name.now (sym (differs c.args.name.now c.if-ne.ensures)) is;
  input_taken = λ is. absurd (is_other c.args.name.now (sym (differs c.args.name.now c.if-ne.ensures)) is);
  other = λ _. refl;
  disk = refl;
  unread = refl;
}

pub returns-then-ne : goal.returns-then-ne
returns-then-ne g c = record {
  count = none_more _;
  begun = rw c.turn_to-in-Ok.ensures refl;
  content = λ tells _ _.
      rw c.turn_to-in-Ok.ensures
      (under_other (g.D.Disk.contents c.args.self.now.disk) _ c.args.name.now (differs c.args.name.now c.if-ne.ensures)
      ∙ c.in-Ok.ensures.content tells);
  missing = λ _ is. absurd (begun _ is);
  refused = λ _. tt;
  input = λ is. absurd (is_other c.args.name.now (sym (differs c.args.name.now c.if-ne.ensures)) is);
  input_there = λ is _. is_other c.args.name.now (sym (differs c.args.name.now c.if-ne.ensures)) is;
  input_taken = λ is. absurd (is_other c.args.name.now (sym (differs c.args.name.now c.if-ne.ensures)) is);
  other = λ _. refl;
  disk = refl;
  unread = refl;
}

pub returns-then-self : goal.returns-then-self
returns-then-self g c = record {
  count = refl;
  begun = rw c.turn_to.ensures refl;
  content = λ _ _ _. tt;
  missing = λ _ is. absurd (not_missing is);
  refused = λ other. absurd (other (is_input c.args.name.now c.if-ne.ensures));
  input = λ _. (λ no. absurd (false≢true no), λ free. absurd (true≢false (sym c.if-self.true ∙ free)));
  input_there = λ _ is. not_missing is;
  input_taken = λ _. c.if-self.true;
  other = λ _. refl;
  disk = refl;
  unread = refl;
}

pub returns : goal.returns
returns g c = record {
  count = none_more _;
  begun = rw c.turn_to-2.ensures c.of_input.ensures.open;
  content = λ _ input_tells file_tells.
      rw c.turn_to-2.ensures
      (under_input (g.D.Disk.contents c.args.self.now.disk) _ c.args.name.now (not-false _ (sym c.if-ne.ensures))
      ∙ ap Some (sym (c.of_input.ensures.left input_tells file_tells g.D.File.Stream.content)));
  missing = λ _ is. absurd (begun _ is);
  refused = λ _. tt;
  input = λ _. (λ _. c.if-self.false, λ _. refl);
  input_there = λ _ is. begun _ is;
  input_taken = λ _. refl;
  other = λ other. absurd (other (is_input c.args.name.now c.if-ne.ensures));
  disk = refl;
  unread = refl;
}

pub invariant_of-self : goal.invariant_of-self
invariant_of-self g c = search rules

pub invariant_of-self-2 : goal.invariant_of-self-2
invariant_of-self-2 g c = search rules
