-- The subtrees of the tree over n chunks (BLAKE3 (2020), 2.1), each told by its span: the number of
-- its first chunk, and how many chunks it has.
use Rattle.std.specs.Prelude.{◌≡◌, ◌⊎◌, ℕ, ◌+◌, ◌-◌}
use Rattle.b3_core.specs.Tree.{IsLeft}
use Rattle.b3_core.specs.declared.spans.Span.{Span}

-- the span of c chunks from chunk a on is a subtree: the whole tree, or the left or the right child of
-- a subtree
pub data IsSubtree (n : ℕ) : ℕ → ℕ → Type 0 where
  whole : IsSubtree n 0 n
  left_child : {a c l : ℕ} → IsSubtree n a c → IsLeft c l → IsSubtree n a l
  right_child : {a c l : ℕ} → IsSubtree n a c → IsLeft c l → IsSubtree n (a + l) (c - l)

-- the span of l chunks from a on is the left child, and that of r chunks from b on the right child, of
-- one subtree
abbrev pub AreChildren : ℕ → ℕ → ℕ → ℕ → ℕ → Type 0
AreChildren n a l b r = IsSubtree n a (l + r) × IsLeft (l + r) l × (b ≡ a + l)

-- the spans are the two children of one subtree
abbrev pub AreSiblings : ℕ → Span → Span → Type 0
AreSiblings n s t = AreChildren n s.first s.count t.first t.count ⊎ AreChildren n t.first t.count s.first s.count
