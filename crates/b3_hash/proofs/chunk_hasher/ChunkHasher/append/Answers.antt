use Rattle.std.proofs.Common.{◌≡◌, ◌<◌, ◌++◌, ◌∙◌, length, sym, ap, subst, append_assoc, arith}
use Rattle.std.proofs.lemmas.Bool.{eqb-false, eqb-true}
use Rattle.std.proofs.lemmas.List.{append-nil, nil_from_length, take-append-drop}
use Rattle.b3_hash.specs.OpenChunks.{chunk_state_len}
use Rattle.b3_hash.specs.ChunkHashers.{EndsWithChunk, ChunkHasherState}
use Rattle.b3_hash.specs.Hashers.{EndsWith}
use Rattle.b3_hash.proofs.Standing.{IsAllClosed-none, chunk_state_len-chunk_state_of, length-EndsWithChunk}
use Rattle.b3_hash.proofs.chunk_hasher.ChunkHasher.append.Goals as goal

pub returns-then-filled-eq0-clause-ends_with : goal.returns-then-filled-eq0-clause-ends_with
returns-then-filled-eq0-clause-ends_with c = λ before held.
    let empty : chunk_state_len c.args.self.now.chunk_state ≡ 0 =
    omega (
      arith,
      chunk_state_len-chunk_state_of c.self.inside.last,
      ap (λ (s : ChunkHasherState). chunk_state_len s.chunk_state) c.self.view_is,
    ) in
    let len = length-EndsWithChunk c.args.self.now before held in
    let closed = IsAllClosed-none c.args.self.now before held empty in
    c.append_chunks.ensures.ends_with before closed (λ some. let more = held.further some in absurd (omega arith))

pub returns-then-is_empty-clause-ends_with : goal.returns-then-is_empty-clause-ends_with
returns-then-is_empty-clause-ends_with c = λ before held.
    let input = c.args.input.now in
    let front = c.split_at.result.0.now in
    let rest = c.split_at.result.1.now in
    let none : length rest ≡ 0 = eqb-true (length rest) 0 (sym c.is_empty.ensures ∙ c.if-is_empty.true) in
    let whole : front ++ rest ≡ input =
    (λ i. c.split_at.ensures.front i ++ c.split_at.ensures.back i) ∙ take-append-drop c.min.result input in
    let all : front ≡ input =
    sym (append-nil front) ∙ ap (λ bytes. front ++ bytes) (sym (nil_from_length rest none)) ∙ whole in
    subst (EndsWithChunk c.extend_chunk.new.self) (ap (λ bytes. before ++ bytes) all)
    (c.extend_chunk.ensures.ends_with before held)

pub returns-clause-ends_with : goal.returns-clause-ends_with
returns-clause-ends_with c = λ before held.
    let input = c.args.input.now in
    let front = c.split_at.result.0.now in
    let rest = c.split_at.result.1.now in
    let not_empty = eqb-false (length rest) 0 (sym c.is_empty.ensures ∙ c.if-is_empty.false) in
    let some : 0 < length rest = omega (arith, not_empty) in
    let closed = c.close_chunk.ensures.closed (before ++ front) (c.extend_chunk.ensures.ends_with before held) in
    let whole : front ++ rest ≡ input =
    (λ i. c.split_at.ensures.front i ++ c.split_at.ensures.back i) ∙ take-append-drop c.min.result input in
    let joined = append_assoc before front rest ∙ ap (λ bytes. before ++ bytes) whole in
    subst (EndsWith c.append_chunks-2.new.self c.append_chunks-2.result) joined
    (c.append_chunks-2.ensures.ends_with (before ++ front) closed (λ _. some))

pub extend_chunk-requires-clause-room : goal.extend_chunk-requires-clause-room
extend_chunk-requires-clause-room c =
    let state = chunk_state_len-chunk_state_of c.self.inside.last in
    let same = ap (λ (s : ChunkHasherState). chunk_state_len s.chunk_state) c.self.view_is in
    omega (arith, state, same, c.len-filled.ensures, c.min.ensures, c.split_at.ensures.front_len)

pub returns-then-is_empty-clause-len : goal.returns-then-is_empty-clause-len
returns-then-is_empty-clause-len c =
    let none : length c.split_at.result.1.now ≡ 0 = eqb-true _ 0 (sym c.is_empty.ensures ∙ c.if-is_empty.true) in
    omega (
      arith,
      none,
      c.min.ensures,
      c.split_at.ensures.front_len,
      c.split_at.ensures.back_len,
      c.extend_chunk.ensures.len,
    )

pub close_chunk-requires : goal.close_chunk-requires
close_chunk-requires c =
    let not_empty = eqb-false (length c.split_at.result.1.now) 0 (sym c.is_empty.ensures ∙ c.if-is_empty.false) in
    let state = chunk_state_len-chunk_state_of c.self.inside.last in
    let same = ap (λ (s : ChunkHasherState). chunk_state_len s.chunk_state) c.self.view_is in
    omega (
      arith,
      not_empty,
      state,
      same,
      c.len-filled.ensures,
      c.min.ensures,
      c.split_at.ensures.front_len,
      c.split_at.ensures.back_len,
      c.extend_chunk.ensures.chunk_state,
    )

pub append_chunks-requires-2-clause-fits : goal.append_chunks-requires-2-clause-fits
append_chunks-requires-2-clause-fits c =
    omega (
      arith,
      c.requires,
      c.min.ensures,
      c.split_at.ensures.front_len,
      c.split_at.ensures.back_len,
      c.extend_chunk.ensures.len,
      c.close_chunk.ensures.len,
    )

pub returns-clause-len : goal.returns-clause-len
returns-clause-len c =
    omega (
      arith,
      c.append_chunks-2.ensures.len,
      c.min.ensures,
      c.split_at.ensures.front_len,
      c.split_at.ensures.back_len,
      c.extend_chunk.ensures.len,
      c.close_chunk.ensures.len,
    )
