use Rattle.std.proofs.Common.{◌≡◌, ℕ, List, ◌-◌, ◌*◌, ◌/◌, ◌++◌, length, take, drop, sym, ap, ◌∙◌, subst, arith}
use Rattle.std.proofs.lemmas.List.{drop_all, length-drop, length-take-le, take-append-drop, take_all}
use Rattle.b3_core.specs.Chunks.{chaining_value_at}
use Rattle.b3_hash.specs.OpenChunks.{HasBytes}
use Rattle.b3_hash.specs.Private.{chunk_state_of}
use Rattle.b3_hash.proofs.ChunkStates.{chaining_value_at-append}
use Rattle.b3_hash.proofs.open_chunk.OpenChunk.begin.Goals as goal

pub returns-clause-chunk_state : goal.returns-clause-chunk_state
returns-clause-chunk_state c = λ mode number reaches.
    let bytes = c.args.bytes.now in
    let k : ℕ = (length bytes - 1) / 64 in
    let front = take (64 * k) bytes in
    let piece = drop (64 * k) bytes in
    let all : front ++ piece ≡ bytes = take-append-drop (64 * k) bytes in
    let slice : front ++ take (length bytes - 64 * k) piece ≡ bytes =
    ap (λ xs. front ++ xs) (take_all (length bytes - 64 * k) piece (omega (arith, length-drop (64 * k) bytes))) ∙ all in
    let front_len : length front ≡ 64 * k = length-take-le (64 * k) bytes (omega arith) in
    let held = subst (λ (xs : List ℕ). HasBytes mode number (chunk_state_of c.extend_block.new.self) xs) slice
    (c.extend_block.ensures.bytes mode number front record {
      len = omega (arith, front_len);
      h = reaches
          ∙ ap (λ xs. chaining_value_at mode number xs k) (sym all)
          ∙ chaining_value_at-append mode number front piece k (omega (arith, front_len));
      block = sym (drop_all (64 * k) front (omega (arith, front_len)));
    }) in record { has_bytes = held; last = c.extend_block.ensures.blocks }
