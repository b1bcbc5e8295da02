use Rattle.std.proofs.Common.{◌≡◌, ◌++◌, ◌∙◌, ap, append-nil, arith, sym}
use Rattle.std.specs.Slice.Iter.{chunks_rest, chunks_size}
use Rattle.std.proofs.lemmas.List.{nil_from_length}
use Rattle.hex.specs.Hex.{encode_lower}
use Rattle.b3_lines.proofs.Written.{digits-step, encode_lower-nil}
use Rattle.b3_lines.proofs.writing.push_digits.Goals as goal

pub loop-piece-preserved : goal.loop-piece-preserved
loop-piece-preserved c =
    let steps = c.in-Some.ensures.steps in
    let kept = c.loop-piece.invariant in
    let size : chunks_size c.next.new.self ≡ 32 = steps.0 ∙ kept.2 in (
      omega (arith, size),
      tt,
      size,
      digits-step c.loop-piece.line.items c.extend_from_slice.new.self.items c.write_digits.new.room
          c.in-Some.piece.now
          (chunks_rest c.next.new.self) (chunks_rest c.loop-piece.piece-iterator) _ kept.3
          c.in_ok-extend_from_slice.ensures.items c.write_digits.ensures steps.1.0,
    )

pub returns : goal.returns
returns c =
    let steps = c.in-None.ensures.steps in
    let none = nil_from_length (chunks_rest c.loop-piece.piece-iterator) steps.1.0 in
    let line = c.loop-piece.line.items in
    sym (append-nil line) ∙ ap (λ t. line ++ t) (sym (ap encode_lower none ∙ encode_lower-nil))
    ∙ c.loop-piece.invariant.3
