-- Lists of calls: the pieces of an input as one, and what reads of its output (BLAKE3 (2020), 2.6) give together.
use Rattle.std.specs.Prelude.{ℕ, List, flat_map}
use Rattle.std.specs.Borrow.{Bor}
use Rattle.b3_core.specs.Output.{output_bytes}
use Rattle.b3_core.specs.declared.nodes.Node.{Node}

-- the pieces, one after the other
abbrev pub concatenated : List (Bor (List ℕ)) → List ℕ
concatenated pieces = flat_map (λ piece. piece.now) pieces

-- the stream's bytes at these places, at each so many, one after the other
abbrev pub bytes_read : Node → List (ℕ × ℕ) → List ℕ
bytes_read node reads = flat_map (λ read. output_bytes node read.0 read.1) reads
