use Rattle.std.proofs.Common.{◌∙◌, ap}
use Rattle.b3_core.specs.Words.{bytes_of}
use Rattle.b3_core.proofs.compression.output_block.Goals as goal

pub returns : goal.returns
returns c = c.bytes_of.ensures ∙ ap bytes_of c.compress.ensures
