use Rattle.std.proofs.Common.{rules, ◌≡◌, ℕ, ◌+◌, ◌<◌, ◌≤◌, ◌++◌, ◌∷◌, ◌∙◌, List, Bor, [], length, take, get_or, sym, ap, subst, arith}
use Rattle.std.proofs.lemmas.List.{take_all, take_more, append-nil, length-append}
use Rattle.std.proofs.lemmas.Grind.{flat_map-append}
use Rattle.std.proofs.lemmas.List.Concat.{length-flat_map}
use Rattle.std.proofs.lemmas.List.Sums.{sum_by_more_le}
use Rattle.b3_core.specs.Tree.{top}
use Rattle.b3_hash.specs.Hashers.{StandsFor}
use Rattle.b3_hash.specs.Laws.{concatenated}
use Rattle.b3_hash.proofs.laws.output_of_pieces.Goals as goal

-- no bytes, where there is no piece
abbrev none : Bor (List ℕ)
none = record { ref_ptr = (0, 0); now = [] }

-- one piece more
concatenated-more : (pieces : List (Bor (List ℕ))) (i : ℕ) → i < length pieces
    → concatenated (take (i + 1) pieces) ≡ concatenated (take i pieces) ++ (get_or pieces i none).now
concatenated-more pieces i within =
    let piece = get_or pieces i none in
    ap concatenated (take_more pieces i none within)
    ∙ flat_map-append (λ (p : Bor (List ℕ)). p.now) (take i pieces) (piece ∷ [])
    ∙ ap (λ rest. concatenated (take i pieces) ++ rest) (append-nil piece.now)

-- some pieces and one more are no longer than all
length-concatenated-more : (pieces : List (Bor (List ℕ))) (i : ℕ) → i < length pieces
    → length (concatenated (take i pieces)) + length (get_or pieces i none).now ≤ length (concatenated pieces)
length-concatenated-more pieces i within =
    let some = length-flat_map (λ (p : Bor (List ℕ)). p.now) (take i pieces) in
    let all = length-flat_map (λ (p : Bor (List ℕ)). p.now) pieces in
    let more = sum_by_more_le (λ (p : Bor (List ℕ)). length p.now) pieces i none within in
    omega (arith, some, all, more)

pub unwrap-requires : goal.unwrap-requires
unwrap-requires c =
    let more = length-concatenated-more c.args.pieces.now c.loop-piece.piece-index c.loop-piece-test.true in
    let len = c.loop-piece.invariant.len in
    search rules

pub loop-piece-preserved : goal.loop-piece-preserved
loop-piece-preserved c =
    let pieces = c.args.pieces.now in
    let i = c.loop-piece.piece-index in
    let more = concatenated-more pieces i c.loop-piece-test.true in
    let held = c.loop-piece.invariant in
    let len = rw c.unwrap.ensures at c.update.ensures.len in
    let ok = rw c.unwrap.ensures at c.update.ensures.ok in record {
      mode = c.update.ensures.mode ∙ held.mode;
      len = omega (
        arith,
        len,
        held.len,
        ap length more,
        length-append (concatenated (take i pieces)) (get_or pieces i none).now,
      );
      stands_for = subst (StandsFor c.update.new.self) (sym more) (ok (concatenated (take i pieces)) held.stands_for);
    }

pub returns : goal.returns
returns c =
    let pieces = c.args.pieces.now in
    let held = c.loop-piece.invariant in
    let all = ap concatenated (take_all c.loop-piece.piece-index pieces c.loop-piece-test.false) in
    c.finish.ensures.output _ held.stands_for ∙ (λ j. record { node = top (held.mode j) 0 (all j); place = 0 })
