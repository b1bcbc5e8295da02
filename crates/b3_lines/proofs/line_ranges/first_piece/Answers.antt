use Rattle.std.proofs.Common.{◌≡◌, ◌∙◌, ℕ, ◌+◌, List, [], ◌∷◌, ap, drop, length, sym}
use Rattle.std.proofs.lemmas.Bool.{eqb-true}
use Rattle.std.proofs.lemmas.List.{nil_from_length, take_rest}
use Rattle.b3_lines.specs.Lines.{pieces_of}
use Rattle.b3_lines.proofs.Pieces.{ArePieces-pieces_of, drop-behind, length-pieces_of, pieces_of-nil, pieces_of-only}
use Rattle.b3_lines.proofs.line_ranges.first_piece.Goals as goal

pub returns-then-is_empty-clause-first : goal.returns-then-is_empty-clause-first
returns-then-is_empty-clause-first c =
    let text = c.args.text.now in
    let none : text ≡ [] =
    nil_from_length text (eqb-true (length text) 0 (sym c.is_empty.ensures ∙ c.if-is_empty.true)) in
    ap (pieces_of c.args.delimiter) none ∙ pieces_of-nil c.args.delimiter

pub returns-then-is_empty-clause-count : goal.returns-then-is_empty-clause-count
returns-then-is_empty-clause-count c = length-pieces_of c.args.delimiter c.args.text.now

pub returns-then-is_empty-clause-are_pieces : goal.returns-then-is_empty-clause-are_pieces
returns-then-is_empty-clause-are_pieces c = ArePieces-pieces_of c.args.delimiter c.args.text.now

pub returns-then-is_empty-clause-no_other : goal.returns-then-is_empty-clause-no_other
returns-then-is_empty-clause-no_other c = pieces_of-only c.args.delimiter c.args.text.now

pub returns-clause-first : goal.returns-clause-first
returns-clause-first c =
    let text = c.args.text.now in
    let n = c.first_piece_length.result in
    let rest = c.split_at.result.1.now in
    let behind = take_rest rest c.min.result
    ∙ drop-behind text rest n c.min.result c.split_at.ensures.back c.min.ensures in
    c.first_piece_length.ensures.first
    ∙ ap (λ (piece : List ℕ). piece ∷ pieces_of c.args.delimiter (drop (n + 1) text)) (sym c.split_at.ensures.front)
    ∙ ap (λ (later : List ℕ). c.split_at.result.0.now ∷ pieces_of c.args.delimiter later) (sym behind)

pub returns-clause-count : goal.returns-clause-count
returns-clause-count c = length-pieces_of c.args.delimiter c.args.text.now

pub returns-clause-are_pieces : goal.returns-clause-are_pieces
returns-clause-are_pieces c = ArePieces-pieces_of c.args.delimiter c.args.text.now

pub returns-clause-no_other : goal.returns-clause-no_other
returns-clause-no_other c = pieces_of-only c.args.delimiter c.args.text.now
