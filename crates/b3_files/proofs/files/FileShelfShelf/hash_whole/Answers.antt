use Rattle.std.proofs.Common.{◌≡◌, ℕ, ◌&&◌, Bool, true, false, List, [], None, Some, IsTrue, bytes_eq, refl, sym}
use Rattle.std.proofs.lemmas.Bool.{false≢true}
use Rattle.b3_hash.specs.Hashers.{HasherState, StandsFor}
use Rattle.b3_io.specs.Contents.{Contents, StandsForContent, input_name}
use Rattle.b3_files.specs.Files.{contents_with, told_if}
use Rattle.b3_files.proofs.files.FileShelfShelf.hash_whole.Goals as goal

-- the content that the file of another name than the input's tells, or, where any tells none, whatever was hashed
told_content : (file input input_file : Bool) (contents : Contents) (rest name content : List ℕ) (hasher : HasherState)
    → bytes_eq name input_name ≡ false → (IsTrue file → contents name ≡ Some content)
    → (IsTrue file → StandsFor hasher content) → StandsForContent None [] hasher
    → StandsForContent (told_if (file && input && input_file) (contents_with contents rest)) name hasher
told_content true true true contents rest name content hasher other is stands any =
    record { content = content; has = rw other (is refl); stands = stands refl }
told_content true true false contents rest name content hasher other is stands any =
    record { content = any.content; has = tt; stands = any.stands }
told_content true false input_file contents rest name content hasher other is stands any =
    record { content = any.content; has = tt; stands = any.stands }
told_content false input input_file contents rest name content hasher other is stands any =
    record { content = any.content; has = tt; stands = any.stands }

pub returns-in_default : goal.returns-in_default
returns-in_default g c = record { len = refl; mode = refl; content = λ no. absurd (false≢true no) }

pub returns-in_default-open : goal.returns-in_default-open
returns-in_default-open g c = record { len = refl; mode = refl; content = λ no. absurd (false≢true no) }

pub returns-in_default-2 : goal.returns-in_default-2
returns-in_default-2 g c = record { len = refl; mode = refl; content = λ no. absurd (false≢true no) }

pub returns-then-eq : goal.returns-then-eq
returns-then-eq g c = record { len = refl; mode = refl; content = λ no. absurd (false≢true no) }

pub hash_file-requires : goal.hash_file-requires
hash_file-requires g c = record {
  told = λ tells. rw c.in-Ok-Plain.field-0-is at (c.in-Ok-Plain.ensures.len tells _ (c.in-Ok.ensures.content tells));
  buffer = c.requires.buffer;
  fresh = c.requires.fresh;
}

pub returns : goal.returns
returns g c = record {
  len = c.hash_file.ensures.len;
  mode = c.hash_file.ensures.mode;
  content = λ is_hashed.
      told_content g.D.File.Stream.tells g.I.Stream.tells g.I.File.Stream.tells (g.D.Disk.contents c.args.self.now.disk) _
      c.args.name.now (g.D.File.Stream.content c.in-Ok.file) c.hash_file.new.hasher (sym c.if-eq.ensures)
      c.in-Ok.ensures.content (λ tells. c.hash_file.ensures.content tells is_hashed) (c.hash_file.ensures.stands is_hashed);
}
