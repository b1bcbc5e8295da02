use Rattle.std.proofs.Common.{◌≡◌, ◌&&◌, Bool, true, false, refl, ◌∙◌}
use Rattle.b3_files.proofs.Telling.{none_more, not_open, same_count}
use Rattle.b3_files.proofs.files.FileShelfShelf.read.Goals as goal

still_open : (begun : Bool) → begun ≡ (begun && true)
still_open true = refl
still_open false = refl

pub returns : goal.returns
returns g c =
    let read = c.in-Some.ensures in
    record {
      count = none_more _;
      begun = read.open ∙ still_open _;
      within = read.within;
      bytes = read.bytes;
      not_begun = λ closed. same_count _ _ (read.not_open closed);
      input_taken = refl;
      disk = refl;
      input = refl;
    }

pub returns-in_default : goal.returns-in_default
returns-in_default g c = record {
  count = refl;
  begun = rw c.turn_to.ensures (not_open _);
  within = tt;
  bytes = λ _. tt;
  not_begun = λ _. tt;
  input_taken = refl;
  disk = refl;
  input = refl;
}
