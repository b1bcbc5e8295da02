use Rattle.std.proofs.Common.{◌∙◌, ap, arith, length, map, refl, subst, sym}
use Rattle.std.specs.Prelude.{All}
use Rattle.b3_lines.specs.Lines.{IsWithin, line_at, lines_of}
use Rattle.b3_lines.proofs.Pieces.{ArePieces-pieces_of, length-pieces_of, pieces_of-only}
use Rattle.b3_lines.proofs.RangesFrom.{Stand-lines_of, length-ranges_from}
use Rattle.b3_lines.proofs.reading.lines.Goals as goal

pub returns-clause-lines : goal.returns-clause-lines
returns-clause-lines c =
    let text = c.args.text.now in
    ap (map (line_at text)) c.new.ensures ∙ (Stand-lines_of text text 0 refl).0

pub returns-clause-within : goal.returns-clause-within
returns-clause-within c =
    let text = c.args.text.now in
    subst (All (IsWithin text)) (sym c.new.ensures) (Stand-lines_of text text 0 refl).1

pub returns-clause-count : goal.returns-clause-count
returns-clause-count c =
    let text = c.args.text.now in
    omega (arith, ap length c.new.ensures, length-ranges_from 0 (lines_of text), length-pieces_of 10 text)

pub returns-clause-are_lines : goal.returns-clause-are_lines
returns-clause-are_lines c = ArePieces-pieces_of 10 c.args.text.now

pub returns-clause-no_other : goal.returns-clause-no_other
returns-clause-no_other c = pieces_of-only 10 c.args.text.now
