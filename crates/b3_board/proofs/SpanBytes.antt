-- The bytes of a span, and the node of a subtree from those of its two children.
use Rattle.std.proofs.Common.{◌≡◌, ℕ, suc, ◌+◌, ◌-◌, ◌*◌, ◌^◌, ◌<◌, ◌≤◌, min, List, length, take, drop, arith, sym, subst, ap, ◌∙◌, length-drop}
use Rattle.std.proofs.lemmas.List.{length-take, take-take, drop-drop, drop-take}
use Rattle.b3_core.specs.Nodes.{chaining}
use Rattle.b3_core.specs.Subtrees.{AreChildren}
use Rattle.b3_core.specs.Tree.{IsLeft, chunks, parent_node, top}
use Rattle.b3_core.specs.declared.modes.Mode.{Mode}
use Rattle.b3_core.proofs.Powers.{double}
use Rattle.b3_core.proofs.Subtrees.{top-joined, top-parent}
use Rattle.b3_board.specs.Spans.{part}
use Rattle.b3_core.proofs.Siblings.{Kids-from_AreChildren}

pub part-length : (input : List ℕ) (a c : ℕ) → length (part input a c) ≡ min (1024 * c) (length input - 1024 * a)
part-length input a c = omega (arith, length-take (1024 * c) (drop (1024 * a) input), length-drop (1024 * a) input)

front_part : (input : List ℕ) (a l r : ℕ) → take (1024 * l) (part input a (l + r)) ≡ part input a l
front_part input a l r = take-take (1024 * l) (1024 * (l + r)) (drop (1024 * a) input) (omega arith)

back_part : (input : List ℕ) (a l r b : ℕ) → b ≡ a + l → drop (1024 * l) (part input a (l + r)) ≡ part input b r
back_part input a l r b next =
    let rest = drop (1024 * a) input in
    let sum : 1024 * (l + r) ≡ 1024 * l + 1024 * r = omega arith in
    let place : 1024 * a + 1024 * l ≡ 1024 * b = omega arith in
    ap (λ (k : ℕ). drop (1024 * l) (take k rest)) sum ∙ drop-take (1024 * l) (1024 * r) rest
    ∙ ap (take (1024 * r)) (drop-drop (1024 * l) (1024 * a) input)
    ∙ ap (λ (k : ℕ). take (1024 * r) (drop k input)) place

pub top-part : (input : List ℕ) (mode : Mode) (first a l b r : ℕ) → AreChildren (chunks (length input)) a l b r
    → top mode (first + a) (part input a (l + r))
    ≡ parent_node mode
    (chaining (top mode (first + a) (part input a l)))
    (chaining (top mode (first + b) (part input b r)))
top-part input mode first a l b r kids =
    let n = chunks (length input) in
    let k = Kids-from_AreChildren n a l b r (omega arith) kids in
    let power = k.power in
    let len = part-length input a (l + r) in
    let more : 1024 * l < length (part input a (l + r)) = omega (arith, k.ends, k.next, k.some, k.positive) in
    let fits : length (part input a (l + r)) ≤ 1024 * 2 ^ suc k.j = omega (arith, k.short, double k.j) in
    let joined = top-joined k.j mode (first + a) (part input a (l + r)) (omega (arith, more, power)) fits in
    let e = sym power in
    let there : first + a + 2 ^ k.j ≡ first + b = omega (arith, k.next, power) in
    let front : take (1024 * 2 ^ k.j) (part input a (l + r)) ≡ part input a l =
    ap (λ (p : ℕ). take (1024 * p) (part input a (l + r))) e ∙ front_part input a l r in
    let back : drop (1024 * 2 ^ k.j) (part input a (l + r)) ≡ part input b r =
    ap (λ (p : ℕ). drop (1024 * p) (part input a (l + r))) e ∙ back_part input a l r b k.next in
    joined
    ∙ (λ i. parent_node mode (chaining (top mode (first + a) (front i))) (chaining (top mode (there i) (back i))))

-- the same of chunks in a row that are halved as a tree of their own is, whether or not this is one of the input's
pub top-halves : (input : List ℕ) (mode : Mode) (first a l b r : ℕ)
    → b ≡ a + l → IsLeft (l + r) l → 0 < r → b + r ≤ chunks (length input)
    → top mode (first + a) (part input a (l + r))
    ≡ parent_node mode
    (chaining (top mode (first + a) (part input a l)))
    (chaining (top mode (first + b) (part input b r)))
top-halves input mode first a l b r next is_left some inside =
    let bytes = part input a (l + r) in
    let len = part-length input a (l + r) in
    let left_some : 0 < l = omega (arith, is_left.2) in
    let low : 1024 * (b + r) < length input + 1024 = omega (arith, inside, some, next, left_some) in
    let more : 1024 < length bytes = omega (arith, len, low, next, some, left_some) in
    let count : chunks (length bytes) ≡ l + r = omega (arith, len, low, next, some, left_some) in
    let there : first + a + l ≡ first + b = omega (arith, next) in
    top-parent mode (first + a) l bytes more (subst (λ (n : ℕ). IsLeft n l) (sym count) is_left)
    ∙ (λ i. parent_node mode
    (chaining (top mode (first + a) (front_part input a l r i)))
    (chaining (top mode (there i) (back_part input a l r b next i))))
