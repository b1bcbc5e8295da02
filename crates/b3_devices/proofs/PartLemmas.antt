-- Parts of a content that is read at places: what a shelf's rest is as a source, and what the next region adds to those
-- before it.
use Rattle.std.proofs.Common.{◌≡◌, ℕ, ◌+◌, ◌-◌, ◌/◌, ◌%◌, ◌^◌, ◌*◌, ◌<◌, ◌++◌, IsSome, List, length, take, drop, Option, None, Some, refl, sym, ap, ◌∙◌, length-append, arith}
use Rattle.std.specs.Option.{option_map}
use Rattle.std.proofs.Math.Nat.{add-mod_right}
use Rattle.std.proofs.Math.Seq.{take-append-add}
use Rattle.std.proofs.lemmas.List.{length-drop, length-take, take-append-drop, take_all}
use Rattle.b3_board.specs.Regions.{region}
use Rattle.b3_board.specs.Spans.{IsRootOf}
use Rattle.b3_core.specs.Tree.{top}
use Rattle.b3_core.specs.declared.modes.Mode.{Mode}
use Rattle.b3_core.specs.declared.nodes.Node.{Node}
use Rattle.b3_hash.specs.Hashers.{HasherState, StandsFor, length_of, mode_of}
use Rattle.b3_hash.proofs.Standing.{length-StandsFor}
use Rattle.b3_io.specs.Contents.{Contents}
use Rattle.b3_devices.specs.Parts.{HasHashed, IsPartOf}
use Rattle.b3_devices.specs.declared.at_offsets.TheConstants.{REGION_LEN, REGION_LEVEL}

-- what is told of a part of a shelf's rest
part_told : (told : Option Contents) (left : List ℕ) (offset len : ℕ) → IsSome told
    → (region (option_map (λ _. left) told) offset len).told ≡ Some (take len (drop offset left))
part_told None left offset len is_told = absurd (cc is_told)
part_told (Some contents) left offset len is_told = refl

-- a part of a shelf's rest, by the root of a board over it
pub part_of : {told : Option Contents} {left : List ℕ} {mode : Mode} {offset len : ℕ} {node : Node}
    → IsRootOf (region (option_map (λ _. left) told) offset len) mode (offset / 1024) node
    → IsPartOf told left mode offset len node
part_of {told} {left} {mode} {offset} {len} {node} root = record {
  bytes = root.bytes;
  len_is = root.may_be.len_is;
  node_is = root.is_top;
  is = λ is_told. root.may_be.told_is (take len (drop offset left)) (part_told told left offset len is_told);
}

-- of two bytes from the last one on there is one
pub one_of_two : (len : ℕ) (left given : List ℕ) → 0 < len → length given ≡ 1 → given ≡ take 2 (drop (len - 1) left)
    → length left ≡ len
one_of_two len left given some one is =
    omega (
      arith,
      some,
      one,
      ap (λ (xs : List ℕ). length xs) is,
      length-take 2 (drop (len - 1) left),
      length-drop (len - 1) left,
    )

-- the bytes of two places in a row
take_two : (n m : ℕ) (xs : List ℕ) → length (take n xs) ≡ n
    → take (n + m) xs ≡ take n xs ++ take m (drop n xs)
take_two n m xs len =
    ap (take (n + m)) (sym (take-append-drop n xs))
    ∙ ap (λ k. take (k + m) (take n xs ++ drop n xs)) (sym len)
    ∙ take-append-add (take n xs) (drop n xs) m

-- what the hasher stands for, and a part behind it
both_told : {told : Option Contents} {left : List ℕ} {mode : Mode} {hasher : HasherState} {len : ℕ} {node : Node}
    (held : HasHashed told left mode hasher) (part : IsPartOf told left mode (length_of hasher) len node)
    → IsSome told → held.before ++ part.bytes ≡ take (length_of hasher + len) left
both_told {told} {left} {mode} {hasher} {len} {node} held part is_told =
    let at = length-StandsFor hasher held.before held.stands in
    let first : held.before ≡ take (length_of hasher) left = held.is is_told ∙ ap (λ k. take k left) at in
    (λ i. first i ++ part.is is_told i)
    ∙ sym (take_two (length_of hasher) len left (sym (ap (λ (xs : List ℕ). length xs) first) ∙ at))

-- a region more
pub pushed : {told : Option Contents} {left : List ℕ} {mode : Mode} {hasher after : HasherState} {node : Node}
    → HasHashed told left mode hasher → IsPartOf told left mode (length_of hasher) REGION_LEN node
    → ((before window : List ℕ) → StandsFor hasher before → length window ≡ 1024 * 2 ^ REGION_LEVEL
    → node ≡ top (mode_of hasher) (length before / 1024) window → StandsFor after (before ++ window))
    → length_of after ≡ length_of hasher + 1024 * 2 ^ REGION_LEVEL
    → mode_of after ≡ mode_of hasher
    → HasHashed told left mode after
pushed {told} {left} {mode} {hasher} {after} {node} held part push len same =
    let at = length-StandsFor hasher held.before held.stands in
    let size : length (held.before ++ part.bytes) ≡ length_of hasher + REGION_LEN =
    length-append held.before part.bytes ∙ (λ i. at i + part.len_is i) in
    record {
      before = held.before ++ part.bytes;
      stands = push held.before part.bytes held.stands part.len_is
          (part.node_is ∙ (λ i. top (sym held.mode_is i) (sym at i / 1024) part.bytes));
      mode_is = same ∙ held.mode_is;
      aligned = ap (λ n. n % REGION_LEN) len ∙ add-mod_right (length_of hasher) REGION_LEN ∙ held.aligned;
      is = λ is_told. both_told held part is_told ∙ ap (λ k. take k left) (sym size);
    }

-- the last part, with which the hasher stands for all
pub ended : {told : Option Contents} {left : List ℕ} {mode : Mode} {hasher : HasherState} {len : ℕ} {node : Node}
    (held : HasHashed told left mode hasher) (part : IsPartOf told left mode (length_of hasher) len node)
    → IsSome told → length left ≡ length_of hasher + len → left ≡ held.before ++ part.bytes
ended {told} {left} {mode} {hasher} {len} {node} held part is_told whole =
    sym (both_told held part is_told ∙ take_all (length_of hasher + len) left (omega (arith, whole)))
