-- Runs of 2 ^ level chunks, and the subtrees over them.
use Rattle.std.proofs.Common.{◌≡◌, ℕ, suc, ◌+◌, ◌-◌, ◌*◌, ◌/◌, ◌%◌, ◌^◌, ◌<◌, ◌≤◌, List, ◌++◌, length, take, drop}
use Rattle.std.proofs.Common.{sym, ap, ◌∙◌, arith}
use Rattle.std.proofs.Math.Nat.{pow-suc}
use Rattle.std.proofs.lemmas.List.{length-take, length-take-le, length-drop, drop-drop, drop_at, drop-take, take-take, take_all}
use Rattle.std.proofs.lemmas.List.{take-append-le, drop-append-le}
use Rattle.std.proofs.lemmas.Nat.{pow_pos}
use Rattle.b3_core.specs.Nodes.{chaining}
use Rattle.b3_core.specs.Chunks.{chunk_at, chunk_node}
use Rattle.b3_core.specs.Tree.{parent_node, top}
use Rattle.b3_core.specs.declared.modes.Mode.{Mode}
use Rattle.b3_core.specs.declared.nodes.Node.{Node}
use Rattle.b3_core.proofs.Subtrees.{top-chunk, top-joined}
use Rattle.b3_hash.specs.Stacks.{subtree_bytes, subtree_chaining}
use Rattle.b3_hash.proofs.ChunkCounts.{bytes-suc, chunks-suc, whole-runs}

-- the bytes from a place after the first n
pub drop-behind : (before bytes : List ℕ) (n more : ℕ) → length before ≡ n
    → drop (n + more) (before ++ bytes) ≡ drop more bytes
drop-behind before bytes n more len =
    sym (drop-drop more n (before ++ bytes)) ∙ ap (drop more) (drop_at before bytes n len)

-- the top over two runs of a level, the second of which may be shorter
pub top-runs : (level : ℕ) (mode : Mode) (bytes left right : List ℕ) (i : ℕ)
    → 1024 * 2 ^ level < length bytes → length bytes ≤ 1024 * 2 ^ suc level
    → take (1024 * 2 ^ level) bytes ≡ left → drop (1024 * 2 ^ level) bytes ≡ right
    → top mode (2 ^ suc level * i) bytes
    ≡ parent_node mode
    (chaining (top mode (2 ^ level * (2 * i)) left)) (chaining (top mode (2 ^ level * (2 * i + 1)) right))
top-runs level mode bytes left right i more fits left_is right_is =
    let first = chunks-suc level i in
    let second : 2 ^ suc level * i + 2 ^ level ≡ 2 ^ level * (2 * i + 1) = omega arith in
    top-joined level mode (2 ^ suc level * i) bytes more fits
    ∙ (λ j. parent_node mode
    (chaining (top mode (first j) (left_is j))) (chaining (top mode (second j) (right_is j))))

-- two runs of a level are a run of the next
pub subtree_chaining-suc : (level : ℕ) (mode : Mode) (input : List ℕ) (i : ℕ)
    → 1024 * 2 ^ level * (2 * i + 2) ≤ length input
    → subtree_chaining mode (suc level) input i
    ≡ chaining (parent_node mode (subtree_chaining mode level input (2 * i))
    (subtree_chaining mode level input (2 * i + 1)))
unfolding subtree_chaining
subtree_chaining-suc level mode input i within =
    let n = 1024 * 2 ^ level in
    let from = 1024 * 2 ^ suc level * i in
    let some : 0 < 2 ^ level = pow_pos level in
    let twice : 2 ^ suc level ≡ 2 ^ level * 2 = pow-suc 2 level in
    let left_from : from ≡ n * (2 * i) = bytes-suc level i in
    let right_from : from + n ≡ n * (2 * i + 1) = omega arith in
    let both : 1024 * 2 ^ suc level ≡ n + n = omega arith in
    let whole = subtree_bytes (suc level) input i in
    let whole_is : whole ≡ take (n + n) (drop from input) = ap (λ k. take k (drop from input)) both in
    let len : length whole ≡ n + n =
    ap length whole_is ∙ length-take-le (n + n) (drop from input) (omega (arith, length-drop from input)) in
    let left : take n whole ≡ subtree_bytes level input (2 * i) =
    ap (take n) whole_is
    ∙ take-take n (n + n) (drop from input) (omega arith)
    ∙ ap (λ k. take n (drop k input)) left_from in
    let right : drop n whole ≡ subtree_bytes level input (2 * i + 1) =
    ap (drop n) whole_is
    ∙ drop-take n n (drop from input)
    ∙ ap (take n) (drop-drop n from input)
    ∙ ap (λ k. take n (drop k input)) right_from in
    ap chaining (top-runs level mode whole (subtree_bytes level input (2 * i)) (subtree_bytes level input (2 * i + 1)) i
    (omega arith) (omega arith) left right)

-- a run, and after it the rest of the input, which is no longer
pub parent_node-rest : (level : ℕ) (mode : Mode) (input : List ℕ) (i : ℕ)
    → 1024 * 2 ^ level * (2 * i + 1) < length input
    → length input ≤ 1024 * 2 ^ level * (2 * i + 2)
    → parent_node mode (subtree_chaining mode level input (2 * i))
    (chaining (top mode (2 ^ level * (2 * i + 1)) (drop (1024 * 2 ^ level * (2 * i + 1)) input)))
    ≡ top mode (2 ^ suc level * i) (drop (1024 * 2 ^ suc level * i) input)
unfolding subtree_chaining
parent_node-rest level mode input i more fits =
    let n = 1024 * 2 ^ level in
    let from = 1024 * 2 ^ suc level * i in
    let twice : 2 ^ suc level ≡ 2 ^ level * 2 = pow-suc 2 level in
    let left_from : from ≡ n * (2 * i) = bytes-suc level i in
    let right_from : from + n ≡ n * (2 * i + 1) = omega arith in
    let rest = drop from input in
    let len : length rest ≡ length input - from = length-drop from input in
    let left : take n rest ≡ subtree_bytes level input (2 * i) = ap (λ k. take n (drop k input)) left_from in
    let right : drop n rest ≡ drop (n * (2 * i + 1)) input =
    drop-drop n from input ∙ ap (λ k. drop k input) right_from in
    sym (top-runs level mode rest (subtree_bytes level input (2 * i)) (drop (n * (2 * i + 1)) input) i
    (omega arith) (omega arith) left right)

-- a run does not change where bytes are appended
pub subtree_chaining-append : (level : ℕ) (mode : Mode) (input more : List ℕ) (i : ℕ)
    → 1024 * 2 ^ level * (i + 1) ≤ length input
    → subtree_chaining mode level (input ++ more) i ≡ subtree_chaining mode level input i
unfolding subtree_chaining
subtree_chaining-append level mode input more i within =
    let n = 1024 * 2 ^ level in
    let len = length-drop (n * i) input in
    let same : subtree_bytes level (input ++ more) i ≡ subtree_bytes level input i =
    ap (take n) (drop-append-le (n * i) input more (omega arith))
    ∙ take-append-le n (drop (n * i) input) more (omega arith) in
    ap (λ bytes. chaining (top mode (2 ^ level * i) bytes)) same

-- the run after a whole number of runs of its level
pub subtree_chaining-at : (level : ℕ) (mode : Mode) (input : List ℕ) (count : ℕ) → count % 2 ^ level ≡ 0
    → subtree_chaining mode level input (count / 2 ^ level)
    ≡ chaining (top mode count (take (1024 * 2 ^ level) (drop (1024 * count) input)))
unfolding subtree_chaining
subtree_chaining-at level mode input count aligned =
    let first : 2 ^ level * (count / 2 ^ level) ≡ count = whole-runs level count aligned in
    let from : 1024 * 2 ^ level * (count / 2 ^ level) ≡ 1024 * count = search (arith, first) in
    λ i. chaining (top mode (first i) (take (1024 * 2 ^ level) (drop (from i) input)))

-- a last run of level 0, which is a chunk
pub subtree_chaining-chunk : (mode : Mode) (input : List ℕ) (count : ℕ) (value : List ℕ) (node : Node)
    → length (drop (1024 * count) input) ≤ 1024
    → node ≡ chunk_node mode count (drop (1024 * count) input) → value ≡ chaining node
    → value ≡ subtree_chaining mode 0 input (count / 2 ^ 0)
subtree_chaining-chunk mode input count value node short node_is value_is =
    let rest = drop (1024 * count) input in
    value_is
    ∙ ap chaining (node_is
    ∙ sym (top-chunk mode count rest short)
    ∙ ap (top mode count) (sym (take_all (1024 * 2 ^ 0) rest (omega arith))))
    ∙ sym (subtree_chaining-at 0 mode input count (omega arith))

-- a run of level 0 from the chunks of the bytes that follow
pub subtree_chaining-chunk_at : (mode : Mode) (input bytes : List ℕ) (start j count : ℕ)
    → bytes ≡ drop (1024 * start) input → count ≡ start + j
    → chaining (chunk_node mode (start + j) (chunk_at bytes j)) ≡ subtree_chaining mode 0 input (count / 2 ^ 0)
subtree_chaining-chunk_at mode input bytes start j count bytes_is count_is =
    let from : 1024 * start + 1024 * j ≡ 1024 * count = omega arith in
    let chunk : chunk_at bytes j ≡ take 1024 (drop (1024 * count) input) =
    ap (λ b. take 1024 (drop (1024 * j) b)) bytes_is
    ∙ ap (take 1024) (drop-drop (1024 * j) (1024 * start) input ∙ ap (λ k. drop k input) from) in
    (λ i. chaining (chunk_node mode (sym count_is i) (chunk i)))
    ∙ ap chaining (sym (top-chunk mode count (take 1024 (drop (1024 * count) input))
    (omega (arith, length-take 1024 (drop (1024 * count) input)))))
    ∙ sym (subtree_chaining-at 0 mode input count (omega arith))
