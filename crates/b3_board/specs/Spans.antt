-- Spans of the chunks of an input, and what of the input stands under them (BLAKE3 (2020), 2.1).
use Rattle.std.specs.Prelude.{◌≡◌, ℕ, ◌+◌, ◌-◌, ◌*◌, min, List, length, take, drop, sum_by, Option, Some}
use Rattle.b3_core.specs.Chunks.{chunk_len}
use Rattle.b3_core.specs.Subtrees.{IsSubtree}
use Rattle.b3_core.specs.Tree.{top}
use Rattle.b3_core.specs.declared.modes.Mode.{Mode}
use Rattle.b3_core.specs.declared.nodes.Node.{Node}
use Rattle.b3_core.specs.declared.spans.Span.{Span}

-- the span is a subtree of the tree over n chunks, whichever way leads down to it
abbrev pub IsSubtreeSpan : ℕ → Span → Type 0
IsSubtreeSpan n span = ∥ IsSubtree n span.first span.count ∥₁

-- 1 where chunk k is one of the c chunks from chunk a on, else 0
abbrev pub chunk_in : ℕ → ℕ → ℕ → ℕ
chunk_in k a c = min 1 (min (k + 1 - a) (a + c - k))

-- in how many of the spans chunk k stands
abbrev pub coverage : ℕ → List Span → ℕ
coverage k spans = sum_by (λ s. chunk_in k s.first s.count) spans

-- how many chunks the spans have together
abbrev pub chunks_in : List Span → ℕ
chunks_in spans = sum_by (λ s. s.count) spans

-- the input's bytes in c chunks from chunk a on
abbrev pub part : List ℕ → ℕ → ℕ → List ℕ
part input a c = take (chunk_len * c) (drop (chunk_len * a) input)

-- the top of the input's chunks in a span, where the input's chunks are numbered from `first`
abbrev pub top_of : List ℕ → Mode → ℕ → Span → Node
top_of input mode first span = top mode (first + span.first) (part input span.first span.count)

-- what is known of an input before it is read: its bytes, where they are told, and their number
pub record KnownInput : Type 0 where
  pub told : Option (List ℕ)
  pub len : ℕ

-- all of an input that lies in memory
abbrev pub in_memory : List ℕ → KnownInput
in_memory bytes = record { told = Some bytes; len = length bytes }

-- the input may have these bytes
pub record MayBe (input : KnownInput) (bytes : List ℕ) : Type 0 where
  pub len_is : length bytes ≡ input.len
  pub told_is : (all : List ℕ) → input.told ≡ Some all → bytes ≡ all

-- the node is the top of the chunks in the span, of bytes that the input may have
pub record IsNodeOf (input : KnownInput) (mode : Mode) (first : ℕ) (span : Span) (node : Node) : Type 0 where
  pub bytes : List ℕ
  pub may_be : MayBe input bytes
  pub is_top : node ≡ top_of bytes mode first span

-- the node is the top of all the chunks, of bytes that the input may have
pub record IsRootOf (input : KnownInput) (mode : Mode) (first : ℕ) (node : Node) : Type 0 where
  pub bytes : List ℕ
  pub may_be : MayBe input bytes
  pub is_top : node ≡ top mode first bytes
