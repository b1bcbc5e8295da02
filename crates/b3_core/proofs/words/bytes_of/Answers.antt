use Rattle.std.proofs.Common.{◌∙◌, arith, rules}
use Rattle.std.proofs.lemmas.Slice.{overwrites}
use Rattle.b3_core.proofs.Blocks.{bytes_of-take_more, bytes_of-take_all}
use Rattle.b3_core.proofs.words.bytes_of.Goals as goal

pub words-preserved : goal.words-preserved
words-preserved c = (
  search (rules, overwrites),
  c.words.invariant.1,
  bytes_of-take_more _ _ _ c.words.k _ (omega arith) (omega arith) c.words.invariant.2
      (c.copy_from_slice.ensures.after ∙ c.to_le_bytes.ensures),
)

pub returns : goal.returns
returns c =
    bytes_of-take_all _ _ c.words.k 16 c.words.invariant.0 c.words.invariant.1 (omega arith) c.words.invariant.2
