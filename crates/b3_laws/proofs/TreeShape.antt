-- The shape of the tree, by proof: which spans of chunks are the subtrees of inputs of 2, 3, 5, 6 and 7 chunks.
use Rattle.std.proofs.Common.{◌≡◌, ℕ, suc, ◌+◌, ◌-◌, ◌*◌, ◌^◌, ◌<◌, ◌≤◌, List, length, take, drop, refl, sym, ap, ◌∙◌, arith, drop-drop, length-drop, take-take, take_all}
use Rattle.std.proofs.Math.Nat.{pow-suc}
use Rattle.std.proofs.lemmas.List.{drop-take, length-take}
use Rattle.b3_core.specs.Nodes.{chaining}
use Rattle.b3_core.specs.Tree.{IsLeft, parent_node, top}
use Rattle.b3_core.specs.declared.modes.Mode.{Mode}
use Rattle.b3_core.specs.declared.nodes.Node.{Node}
use Rattle.b3_core.proofs.Subtrees.{top-joined}

-- an input of so many chunks, of which the last may be short
abbrev HasChunks : ℕ → List ℕ → Type 0
HasChunks n input = (1024 * (n - 1) < length input) × (length input ≤ 1024 * n)

-- the top of the tree over `count` chunks from chunk `first` on
abbrev subtree : Mode → List ℕ → ℕ → ℕ → Node
subtree mode input first count = top mode first (take (1024 * count) (drop (1024 * first) input))

-- the parent of two nodes
abbrev parent_of : Mode → Node → Node → Node
parent_of mode left right = parent_node mode (chaining left) (chaining right)

-- ---- any number of chunks

-- 2 ^ level chunks, and at most as many more
subtree-joined : (level more : ℕ) (mode : Mode) (input : List ℕ) (first : ℕ) → 0 < more → more ≤ 2 ^ level
    → 1024 * (first + 2 ^ level) < length input
    → subtree mode input first (2 ^ level + more)
    ≡ parent_of mode (subtree mode input first (2 ^ level)) (subtree mode input (first + 2 ^ level) more)
subtree-joined level more mode input first some few long =
    let l = 2 ^ level in
    let behind = drop (1024 * first) input in
    let span = take (1024 * (l + more)) behind in
    let count = length-take (1024 * (l + more)) behind in
    let longer : 1024 * l < length span = omega (arith, count, length-drop (1024 * first) input) in
    let fits : length span ≤ 1024 * 2 ^ suc level = omega (arith, count, pow-suc 2 level) in
    let two_parts : 1024 * (l + more) ≡ 1024 * l + 1024 * more = omega arith in
    let place : 1024 * first + 1024 * l ≡ 1024 * (first + l) = omega arith in
    let left : take (1024 * l) span ≡ take (1024 * l) behind =
    take-take (1024 * l) (1024 * (l + more)) behind (omega arith) in
    let right : drop (1024 * l) span ≡ take (1024 * more) (drop (1024 * (first + l)) input) =
    ap (λ n. drop (1024 * l) (take n behind)) two_parts ∙ drop-take (1024 * l) (1024 * more) behind
    ∙ ap (take (1024 * more)) (drop-drop (1024 * l) (1024 * first) input ∙ ap (λ n. drop n input) place) in
    top-joined level mode first span longer fits
    ∙ (λ i. parent_of mode (top mode first (left i)) (top mode (first + l) (right i)))

-- all of an input
top-whole : (n : ℕ) (mode : Mode) (input : List ℕ) → length input ≤ 1024 * n → top mode 0 input ≡ subtree mode input 0 n
top-whole n mode input fits = ap (top mode 0) (sym (take_all (1024 * n) input fits))

-- ---- the table

-- the left parts
left-2 : IsLeft 2 1
left-2 = ((0, refl), omega arith, omega arith)

left-3 : IsLeft 3 2
left-3 = ((1, refl), omega arith, omega arith)

left-5 : IsLeft 5 4
left-5 = ((2, refl), omega arith, omega arith)

left-6 : IsLeft 6 4
left-6 = ((2, refl), omega arith, omega arith)

left-7 : IsLeft 7 4
left-7 = ((2, refl), omega arith, omega arith)

-- the subtrees
top-2 : (mode : Mode) (input : List ℕ) → HasChunks 2 input
    → top mode 0 input ≡ parent_of mode (subtree mode input 0 1) (subtree mode input 1 1)
top-2 mode input has =
    top-whole 2 mode input has.1 ∙ subtree-joined 0 1 mode input 0 (omega arith) (omega arith) has.0

top-3 : (mode : Mode) (input : List ℕ) → HasChunks 3 input
    → top mode 0 input ≡ parent_of mode (subtree mode input 0 2) (subtree mode input 2 1)
top-3 mode input has =
    top-whole 3 mode input has.1 ∙ subtree-joined 1 1 mode input 0 (omega arith) (omega arith) has.0

top-5 : (mode : Mode) (input : List ℕ) → HasChunks 5 input
    → top mode 0 input ≡ parent_of mode (subtree mode input 0 4) (subtree mode input 4 1)
top-5 mode input has =
    top-whole 5 mode input has.1 ∙ subtree-joined 2 1 mode input 0 (omega arith) (omega arith) has.0

top-6 : (mode : Mode) (input : List ℕ) → HasChunks 6 input
    → top mode 0 input ≡ parent_of mode (subtree mode input 0 4) (subtree mode input 4 2)
top-6 mode input has =
    top-whole 6 mode input has.1
    ∙ subtree-joined 2 2 mode input 0 (omega arith) (omega arith) (omega (arith, has.0))

top-7 : (mode : Mode) (input : List ℕ) → HasChunks 7 input
    → top mode 0 input ≡ parent_of mode (subtree mode input 0 4) (subtree mode input 4 3)
top-7 mode input has =
    top-whole 7 mode input has.1
    ∙ subtree-joined 2 3 mode input 0 (omega arith) (omega arith) (omega (arith, has.0))

subtree-last_3_of_7 : (mode : Mode) (input : List ℕ) → HasChunks 7 input
    → subtree mode input 4 3 ≡ parent_of mode (subtree mode input 4 2) (subtree mode input 6 1)
subtree-last_3_of_7 mode input has = subtree-joined 1 1 mode input 4 (omega arith) (omega arith) has.0
