-- By cases: what stands under a name, whether all tell, and whether a file is still open.
use Rattle.std.proofs.Common.{◌≡◌, ℕ, ◌+◌, ◌&&◌, Bool, true, false, List, Some, IsTrue, bytes_eq, refl, ◌∙◌, arith}
use Rattle.std.proofs.lemmas.Bool.{false≢true}
use Rattle.std.proofs.lemmas.Slice.Eq.{bytes_eq-Decides}
use Rattle.b3_io.specs.Contents.{Contents, input_name}
use Rattle.b3_files.specs.Files.{contents_with}

-- the name is not the input's
pub is_other : (name : List ℕ) → false ≡ bytes_eq name input_name → name ≡ input_name → ⊥
is_other name other is = false≢true (other ∙ (bytes_eq-Decides name input_name).1 is)

-- what stands under such a name, and under the input's
pub under_other : (contents : Contents) (rest name : List ℕ) → bytes_eq name input_name ≡ false
    → contents_with contents rest name ≡ contents name
under_other contents rest name other = rw other refl

pub under_input : (contents : Contents) (rest name : List ℕ) → bytes_eq name input_name ≡ true
    → contents_with contents rest name ≡ Some rest
under_input contents rest name is = rw is refl

-- all tell
pub both_tell : (a b : Bool) → IsTrue (a && b) → IsTrue a × IsTrue b
both_tell true b is = (refl, is)
both_tell false b is = absurd (false≢true is)

-- nothing is open any more
pub not_open : (begun : Bool) → false ≡ (begun && false)
not_open true = refl
not_open false = refl

-- no failure is counted
pub none_more : (n : ℕ) → n ≡ n + 0
none_more n = omega arith

pub same_count : (a b : ℕ) → Some a ≡ Some b → a ≡ b
same_count a b is = cc
