use Rattle.std.proofs.Common.{◌≡◌, Some, Result, Ok, Err, IfErr, subst, refl, sym, ◌∙◌}
use Rattle.std.proofs.lemmas.Option.{none-some}
use Rattle.std.specs.Result.{result_err}
use Rattle.std.specs.IoError.{error_kind}
use Rattle.b3_io.specs.declared.shelf.NoContent.TheVariants.{Missing, CannotRead}
use Rattle.b3_files.proofs.Telling.{is_other, under_other}
use Rattle.b3_files.proofs.files.FileShelfShelf.lacks.Goals as goal

-- what is known of the error of a result
refused_by : {T E : Type 0} (r : Result T E) (error : E) (P : E → Type 0) → Some error ≡ result_err r → IfErr r P → P error
refused_by (Ok x) error P is holds = absurd (none-some error (sym is))
refused_by (Err other) error P is holds =
    let same : other ≡ error = cc in
    subst P same holds

not_missing : Some CannotRead ≡ Some Missing → ⊥
not_missing is = cc

pub returns-then-eq : goal.returns-then-eq
returns-then-eq g c = record {
  input = λ _. refl;
  missing = λ _ is. absurd (none-some Missing is);
  refused = λ is. absurd (none-some Missing is);
}

pub returns-in_ok-err-in-Ok-Plain : goal.returns-in_ok-err-in-Ok-Plain
returns-in_ok-err-in-Ok-Plain g c = record {
  input = λ is. absurd (is_other c.args.name.now c.if-eq.ensures is);
  missing = λ tells is.
      under_other (g.D.Disk.contents c.args.self.now.disk) _ c.args.name.now (sym c.if-eq.ensures)
      ∙ refused_by c.open.result c.in_ok-err-in-Ok-Plain.field-0 _ c.in_ok-err-in-Ok-Plain.ensures.value
      (c.open.ensures.missing tells) (c.lasting_lack.ensures.0 is);
  refused = λ is. record {
    kind = error_kind c.in_ok-err-in-Ok-Plain.field-0;
    may = refused_by c.open.result c.in_ok-err-in-Ok-Plain.field-0 _ c.in_ok-err-in-Ok-Plain.ensures.value
        c.open.ensures.error;
    missing = (λ _. c.lasting_lack.ensures.0 is, λ _. refl);
  };
}

pub returns-in_err-err-in-Ok-Plain : goal.returns-in_err-err-in-Ok-Plain
returns-in_err-err-in-Ok-Plain g c = record {
  input = λ _. c.from_residual.ensures;
  missing = λ _ is. absurd (none-some Missing (sym c.from_residual.ensures ∙ is));
  refused = λ is. absurd (none-some Missing (sym c.from_residual.ensures ∙ is));
}

pub returns-in-Ok-Folder : goal.returns-in-Ok-Folder
returns-in-Ok-Folder g c = record {
  input = λ is. absurd (is_other c.args.name.now c.if-eq.ensures is);
  missing = λ _ is. absurd (not_missing is);
  refused = λ is. absurd (not_missing is);
}

pub returns-in-Ok-Other : goal.returns-in-Ok-Other
returns-in-Ok-Other g c = record {
  input = λ _. refl;
  missing = λ _ is. absurd (none-some Missing is);
  refused = λ is. absurd (none-some Missing is);
}

pub returns-in-Err : goal.returns-in-Err
returns-in-Err g c = record {
  input = λ is. absurd (is_other c.args.name.now c.if-eq.ensures is);
  missing = λ tells is.
      under_other (g.D.Disk.contents c.args.self.now.disk) _ c.args.name.now (sym c.if-eq.ensures)
      ∙ c.in-Err.ensures.missing tells (c.lasting_lack-in-Err.ensures.0 is);
  refused = λ is. record {
    kind = error_kind c.in-Err.error;
    may = c.in-Err.ensures.error;
    missing = (λ _. c.lasting_lack-in-Err.ensures.0 is, λ _. refl);
  };
}
