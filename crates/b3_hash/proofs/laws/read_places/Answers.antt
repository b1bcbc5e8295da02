use Rattle.std.proofs.Common.{◌≡◌, ◌+◌, ◌-◌, ◌^◌, ◌<◌, ◌≤◌, ◌++◌, ◌∷◌, ◌∙◌, ◌↔◌, ℕ, List, Result, Ok, Err, IsOk, IsErr, [], length, take, drop, get_or, sum_by, refl, sym, ap, arith}
use Rattle.std.proofs.lemmas.List.{take_more, append-nil, length-drop, length-take-le}
use Rattle.std.proofs.lemmas.List.Elements.{All-get_or}
use Rattle.std.proofs.lemmas.List.Sums.{sum_by_more, sum_by_more_le}
use Rattle.std.proofs.lemmas.Slice.{take-put_mid}
use Rattle.std.proofs.lemmas.Grind.{flat_map-append}
use Rattle.b3_core.specs.declared.nodes.Node.{Node}
use Rattle.b3_core.specs.Output.{output_bytes}
use Rattle.b3_hash.specs.Laws.{bytes_read}
use Rattle.b3_hash.specs.Readers.{Reader}
use Rattle.b3_hash.proofs.laws.read_places.Goals as goal

-- one read more
bytes_read-more : (node : Node) (reads : List (ℕ × ℕ)) (i : ℕ) → i < length reads
    → bytes_read node (take (i + 1) reads)
    ≡ bytes_read node (take i reads) ++ output_bytes node (get_or reads i (0, 0)).0 (get_or reads i (0, 0)).1
bytes_read-more node reads i within =
    ap (bytes_read node) (take_more reads i (0, 0) within)
    ∙ flat_map-append (λ (r : ℕ × ℕ). output_bytes node r.0 r.1) (take i reads) (get_or reads i (0, 0) ∷ [])
    ∙ ap (λ rest. bytes_read node (take i reads) ++ rest) (append-nil _)

-- the part of so many bytes
length_part : (done len : ℕ) (out : List ℕ) → done + len ≤ length out
    → length (take (done + len - done) (drop done out)) ≡ len
length_part done len out within =
    let rest = length-drop done out in
    length-take-le (done + len - done) (drop done out) (omega (arith, rest, within)) ∙ omega arith

-- what is refused in one case alone
ok_elsewhere : {T E : Type 0} (r : Result T E) (P : Type 0) → IsErr r ↔ P → (P → ⊥) → IsOk r
ok_elsewhere (Ok x) P refused none = refl
ok_elsewhere (Err e) P refused none = absurd (none (refused.0 refl))

-- a read has its room
has_room : (reads : List (ℕ × ℕ)) (i done room : ℕ) → i < length reads
    → done ≡ sum_by (λ read. read.1) (take i reads) → room ≡ sum_by (λ read. read.1) reads
    → done + (get_or reads i (0, 0)).1 ≤ room
has_room reads i done room within sum all =
    let more = sum_by_more_le (λ (r : ℕ × ℕ). r.1) reads i (0, 0) within in
    omega (arith, more, sum, all)

pub unwrap-requires : goal.unwrap-requires
unwrap-requires c =
    let reads = c.args.reads.now in
    let i = c.loop-read.read-index in
    let read = get_or reads i (0, 0) in
    let room : c.loop-read.done + read.1 ≤ length c.loop-read.out =
    has_room reads i _ _ c.loop-read-test.true c.loop-read.invariant.done (c.loop-read.auto.out ∙ c.requires.room) in
    let size = length_part c.loop-read.done read.1 c.loop-read.out room in
    let place = ap (λ (s : Reader). s.place) c.seek.ensures in
    let below : read.0 + read.1 < 2 ^ 64 =
    All-get_or (λ (r : ℕ × ℕ). r.0 + r.1 < 2 ^ 64) reads i (0, 0) c.loop-read-test.true c.requires.within in
    ok_elsewhere c.fill.result _ c.fill.ensures.past_end (λ past. omega (arith, past, size, place, below))

pub loop-read-preserved : goal.loop-read-preserved
loop-read-preserved c =
    let reads = c.args.reads.now in
    let i = c.loop-read.read-index in
    let read = get_or reads i (0, 0) in
    let held = c.loop-read.invariant in
    let room : c.loop-read.done + read.1 ≤ length c.loop-read.out =
    has_room reads i _ _ c.loop-read-test.true held.done (c.loop-read.auto.out ∙ c.requires.room) in
    let size = length_part c.loop-read.done read.1 c.loop-read.out room in
    let bytes = rw c.unwrap.ensures at c.fill.ensures.bytes in
    let moved = rw c.unwrap.ensures at c.fill.ensures.moved in
    let node = ap (λ (s : Reader). s.node) c.seek.ensures ∙ held.node in
    let written : c.fill.new.out ≡ output_bytes c.args.output.now.node read.0 read.1 =
    bytes ∙ (λ j. output_bytes (node j) (c.seek.ensures j).place (size j)) in record {
      node = ap (λ (s : Reader). s.node) moved ∙ node;
      done = ap (λ k. k + read.1) held.done
          ∙ sym (sum_by_more (λ (r : ℕ × ℕ). r.1) reads i (0, 0) c.loop-read-test.true);
      bytes = take-put_mid c.loop-read.done _ c.loop-read.out c.fill.new.out (c.loop-read.done + read.1)
          (ap (λ k. c.loop-read.done + k) (sym (c.fill.auto.out ∙ size))) (omega (arith, room))
          ∙ (λ j. held.bytes j ++ written j)
          ∙ sym (bytes_read-more c.args.output.now.node reads i c.loop-read-test.true);
    }

pub overflow_add-done : goal.overflow_add-done
overflow_add-done c =
    let room = has_room c.args.reads.now c.loop-read.read-index _ _ c.loop-read-test.true c.loop-read.invariant.done
    (c.loop-read.auto.out ∙ c.requires.room) in
    omega (arith, room)

pub overflow_add-done-in-loop-read : goal.overflow_add-done-in-loop-read
overflow_add-done-in-loop-read c =
    let room = has_room c.args.reads.now c.loop-read.read-index _ _ c.loop-read-test.true c.loop-read.invariant.done
    (c.loop-read.auto.out ∙ c.requires.room) in
    omega (arith, room)
