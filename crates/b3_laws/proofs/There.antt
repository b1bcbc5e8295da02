-- Files that are there, before and after a list is put beside them, and what runs wrote of them.
use Rattle.std.proofs.Common.{◌≡◌, ◌≢◌, ℕ, Bool, List, [], ◌∷◌, ◌++◌, Some, Ok, refl, sym, ◌∙◌, ap, get_or, map, string_bytes}
use Rattle.std.specs.Prelude.{All, bytes_eq, if◌then◌else◌}
use Rattle.std.proofs.lemmas.Bool.{false_from_ne_true}
use Rattle.std.proofs.lemmas.List.Elements.{All-map}
use Rattle.std.proofs.lemmas.Slice.Eq.{bytes_eq-Decides}
use Rattle.std.proofs.lemmas.Str.{IsUtf8-string_bytes}
use Rattle.b3_io.specs.declared.tally.Tally.{Tally}
use Rattle.b3_io.specs.Contents.{Contents}
use Rattle.b3_check.specs.Laws.{File as KnownFile, IsThere, Writes}
use Rattle.b3_io.specs.MemoryShelves.{Puts}
use Rattle.b3_io.specs.Scripts.{Report}
use Rattle.b3_laws.specs.declared.files.File.{File}
use Rattle.b3_laws.specs.declared.runs.Written.{Written}
use Rattle.b3_laws.specs.Files.{CanBeShown, known}
use Rattle.b3_laws.specs.Runs.{report_of}

-- the names of files
pub map-known : (files : List File)
    → map (λ (file : File). string_bytes file.name) files ≡ map (λ (file : KnownFile). file.name) (map known files)
map-known [] = refl
map-known (file ∷ files) = ap (λ names. string_bytes file.name ∷ names) (map-known files)

-- files are there whose names have their contents
pub IsThere-known : (contents : Contents) (files : List File) → All CanBeShown files
    → All (λ (file : File). contents (string_bytes file.name) ≡ Some file.content.items) files
    → All (IsThere contents) (map known files)
IsThere-known contents files shown has =
    All-map (IsThere contents) known files (λ k d within. record {
      has = has k d within;
      is_text = IsUtf8-string_bytes (get_or files k d).name;
      is_named = (shown k d within).is_named;
      is_lawful = (shown k d within).is_lawful;
    })

-- a name that is put has its text, and another name what it had
pub Puts-same : (old new : Contents) (name text : List ℕ) → Puts old new name text → new name ≡ Some text
Puts-same old new name text puts =
    puts name ∙ ap (λ (b : Bool). if b then Some text else old name) ((bytes_eq-Decides name name).1 refl)

pub Puts-other : (old new : Contents) (name text other : List ℕ) → Puts old new name text → other ≢ name
    → new other ≡ old other
Puts-other old new name text other puts differs =
    puts other
    ∙ ap (λ (b : Bool). if b then Some text else old other)
    (false_from_ne_true (bytes_eq name other) (λ same. differs (sym ((bytes_eq-Decides name other).0 same))))

-- what empty sinks gained is what was written
pub report_of-written : (said : Report) (written : Written) (out out₂ err err₂ : List ℕ) (tally : Tally)
    → report_of written ≡ record { out = out₂; err = err₂; tally = tally } → out ≡ [] → err ≡ []
    → Writes said (Some out) (Some out₂) (Some err) (Some err₂) (Ok tally) → report_of written ≡ said
report_of-written said written out out₂ err err₂ tally is no_out no_err wrote =
    let gained : out₂ ≡ said.out = wrote.0 ∙ ap (λ t. t ++ said.out) no_out in
    let complained : err₂ ≡ said.err = wrote.1 ∙ ap (λ t. t ++ said.err) no_err in
    is ∙ (λ i. record { out = gained i; err = complained i; tally = wrote.2 i })
