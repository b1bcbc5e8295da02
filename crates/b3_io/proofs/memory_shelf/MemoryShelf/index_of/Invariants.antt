use Rattle.std.proofs.Common.{◌≡◌, take, None}
use Rattle.b3_io.specs.MemoryShelves.{content_among}
use Rattle.b3_io.proofs.memory_shelf.MemoryShelf.index_of.Given as goal

-- no file so far has the name
abbrev pub invariant-loop-k : goal.invariant-loop-k
invariant-loop-k l = content_among (take l.k l.self.files.items) l.name ≡ None
