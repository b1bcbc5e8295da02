-- What the sum of one name is over files in memory.
use Rattle.std.specs.Prelude.{◌≡◌, ◌⊎◌, ℕ, List, ◌++◌, Some, codes}
use Rattle.b3_core.specs.Modes.{hash_mode}
use Rattle.b3_core.specs.Output.{blake3}
use Rattle.b3_io.specs.Contents.{Contents}
use Rattle.b3_io.specs.Sums.{complaint, digest_text}
use Rattle.b3_io.specs.declared.options.Form.TheVariants.{Named}

-- the name is there, and the output gained its line: the BLAKE3 digest of its content, two spaces and the name
pub record HasLine (contents : Contents) (name out out_after err err_after : List ℕ) : Type 0 where
  pub content : List ℕ
  pub there : contents name ≡ Some content
  pub line : out_after ≡ out ++ digest_text Named (blake3 hash_mode content 0 32) name
  pub silent : err_after ≡ err

-- the error output gained a complaint of the name, and the output nothing
pub record HasComplaint (name out out_after err err_after : List ℕ) : Type 0 where
  pub kept : out_after ≡ out
  pub said : err_after ≡ err ++ complaint name (codes "cannot read")

abbrev pub IsSummed : Contents → List ℕ → List ℕ → List ℕ → List ℕ → List ℕ → Type 0
IsSummed contents name out out_after err err_after =
    HasLine contents name out out_after err err_after ⊎ HasComplaint name out out_after err err_after
