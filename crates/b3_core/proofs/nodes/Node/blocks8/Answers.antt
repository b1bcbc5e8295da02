use Rattle.std.proofs.Common.{◌≡◌, ℕ, ◌+◌, ◌*◌, ◌-◌, ◌<◌, ◌++◌, take, subst, refl, sym, ap, ◌∙◌, arith, rules, bit_or}
use Rattle.std.proofs.lemmas.List.{take_all}
use Rattle.std.proofs.lemmas.Slice.{overwrites}
use borrow.Rule.Slice.PartMut.{put_mid}
use Rattle.b3_core.specs.Words.{bytes_of}
use Rattle.b3_core.specs.Compression.{compress, output_words}
use Rattle.b3_core.specs.Nodes.{output_block}
use Rattle.b3_core.specs.Lanes.{lane}
use Rattle.b3_core.specs.Output.{output_bytes}
use Rattle.b3_core.proofs.OutputBytes.{output_block-whole, output_bytes-next}
use Rattle.b3_core.proofs.nodes.Node.blocks8.Goals as goal

pub lanes-init : goal.lanes-init
unfolding output_bytes
lanes-init c = (c.requires.len, refl)

pub lanes-preserved : goal.lanes-preserved
unfolding output_block compress
lanes-preserved c =
    let node = c.args.self.now in
    let first = c.args.first in
    let j : ℕ = c.lanes.j in
    let lt : j < 8 = omega arith in
    let flags = bit_or node.d 8 in
    let words =
    c.concatenated-words.ensures
    ∙ (λ i. c.transposed8-front.ensures.lanes j lt i ++ c.transposed8-back.ensures.lanes j lt i)
    ∙ (λ i. c.first_words8.ensures.lanes j (lane j c.broadcast-h.result) lt i ++ c.last_words8.ensures.lanes j lt i)
    ∙ (λ i. output_words (c.final_states8-v.ensures.lanes j (first + j) lt (c.counters_from.ensures.low j lt)
    (c.counters_from.ensures.high j lt) i) (lane j c.broadcast-h.result))
    ∙ (λ i. compress (c.broadcast-h.ensures.lanes j lt i) (c.broadcast_message-m.ensures.lanes j lt i) (first + j)
    node.b flags) in
    let block : c.bytes_of.result ≡ output_block node (first + j) = c.bytes_of.ensures ∙ ap bytes_of words in
    let at : 64 * (first + j) ≡ 64 * first + 64 * j = omega arith in
    let next : 64 * j + 64 ≡ 64 * (j + 1) = omega arith in (
      search (rules, overwrites),
      subst (λ n. take n (put_mid (64 * j) (64 * j + 64 - 64 * j) c.lanes.out c.copy_from_slice.new.self)
          ≡ output_bytes node (64 * first) n) next
          (output_bytes-next node (64 * first) (64 * j) (64 * j + 64 - 64 * j) 64 c.lanes.out
          c.copy_from_slice.new.self (omega (arith, c.lanes.invariant.0)) c.lanes.invariant.1
          (c.copy_from_slice.ensures.after ∙ block ∙ output_block-whole node (first + j)
          ∙ ap (λ from. output_bytes node from 64) at)),
    )

pub returns : goal.returns
returns c =
    let all : 64 * c.lanes.j ≡ 512 = omega arith in
    sym (take_all (64 * c.lanes.j) c.lanes.out (omega (arith, c.lanes.invariant.0)))
    ∙ c.lanes.invariant.1
    ∙ ap (output_bytes c.args.self.now (64 * c.args.first)) all

pub concatenated-words-requires-clause-front : goal.concatenated-words-requires-clause-front
concatenated-words-requires-clause-front c = c.transposed8-front.ensures.wide.1 c.lanes.j c.lanes-test.true

pub concatenated-words-requires-clause-back : goal.concatenated-words-requires-clause-back
concatenated-words-requires-clause-back c = c.transposed8-back.ensures.wide.1 c.lanes.j c.lanes-test.true
