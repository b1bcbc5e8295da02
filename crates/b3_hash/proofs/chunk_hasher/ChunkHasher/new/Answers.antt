use Rattle.std.proofs.Common.{◌*◌, ◌∙◌, [], ap, sym, subst, arith}
use Rattle.std.proofs.lemmas.List.{drop_all}
use Rattle.b3_hash.specs.OpenChunks.{IsChunkState}
use Rattle.b3_hash.specs.Private.{chunk_state_of}
use Rattle.b3_hash.specs.Stacks.{stack_of}
use Rattle.b3_hash.proofs.Merging.{stack_of-none}
use Rattle.b3_hash.proofs.chunk_hasher.ChunkHasher.new.Goals as goal

pub returns-clause-ends_with : goal.returns-clause-ends_with
returns-clause-ends_with c =
    let count = c.new-closed.result.chunks in
    let none = c.new-closed.ensures.chunks in record {
      stack = c.new-closed.ensures.values
          ∙ sym (ap (stack_of 54 0 c.args.mode []) none ∙ stack_of-none 54 0 c.args.mode []);
      chunk_state = subst (IsChunkState c.args.mode count (chunk_state_of c.new-last.result))
          (sym (drop_all (1024 * count) [] (omega arith)))
          (c.new-last.ensures.chunk_state count);
      closed = omega arith;
      further = λ some. absurd (omega arith);
      last = omega arith;
    }
