use Rattle.b3_lines.proofs.Pieces.{pieces_of-found}
use Rattle.b3_lines.proofs.line_ranges.first_piece_length.Goals as goal

pub returns-clause-first : goal.returns-clause-first
returns-clause-first c =
    pieces_of-found c.args.delimiter c.args.text.now c.memchr.result c.requires c.memchr.ensures _ c.unwrap_or.ensures
