-- Parts of an input, each of as many chunks, and the tops of the trees over them.
use Rattle.std.proofs.Common.{◌≡◌, ℕ, suc, ◌+◌, ◌-◌, ◌*◌, ◌^◌, ◌<◌, ◌≤◌, List, length, take, drop, sym, ap, ◌∙◌}
use Rattle.std.proofs.Common.{inl, inr, arith}
use Rattle.std.proofs.Math.Nat.{pow-suc}
use Rattle.std.proofs.lemmas.Nat.{column_fits, pow_pos}
use Rattle.std.proofs.lemmas.List.{length-take, length-take-le, length-drop, take_all, drop-drop, drop-take, take-take}
use Rattle.std.proofs.lemmas.Bool.{cases_lt}
use Rattle.b3_core.specs.Nodes.{chaining}
use Rattle.b3_core.specs.Tree.{parent_node, top}
use Rattle.b3_core.specs.Lanes.{chunk_chaining, part}
use Rattle.b3_core.specs.declared.modes.Mode.{Mode}
use Rattle.b3_core.proofs.Subtrees.{top-chunk, top-joined}

-- a part within the front
pub part-front : (w j n : ℕ) (xs : List ℕ) → 1024 * w * j + 1024 * w ≤ n → part w j (take n xs) ≡ part w j xs
part-front w j n xs within =
    let at : ℕ = 1024 * w * j in
    let room : at + (n - at) ≡ n = omega arith in
    ap (take (1024 * w)) (ap (λ m. drop at (take m xs)) (sym room) ∙ drop-take at (n - at) xs)
    ∙ take-take (1024 * w) (n - at) (drop at xs) (omega arith)

-- a part of the back
pub part-back : (w j k n : ℕ) (xs : List ℕ) → n + 1024 * w * j ≡ 1024 * w * k → part w j (drop n xs) ≡ part w k xs
part-back w j k n xs at =
    ap (take (1024 * w)) (drop-drop (1024 * w * j) n xs ∙ ap (λ m. drop m xs) at)

-- the parts of a part of twice as many chunks
pub part-left : (w j : ℕ) (xs : List ℕ) → take (1024 * w) (part (w * 2) j xs) ≡ part w (2 * j) xs
part-left w j xs =
    let at : 1024 * (w * 2) * j ≡ 1024 * w * (2 * j) = omega arith in
    take-take (1024 * w) (1024 * (w * 2)) (drop (1024 * (w * 2) * j) xs) (omega arith)
    ∙ ap (λ m. take (1024 * w) (drop m xs)) at

pub part-right : (w j : ℕ) (xs : List ℕ) → drop (1024 * w) (part (w * 2) j xs) ≡ part w (2 * j + 1) xs
part-right w j xs =
    let at : 1024 * (w * 2) * j + 1024 * w ≡ 1024 * w * (2 * j + 1) = omega arith in
    let twice : 1024 * (w * 2) ≡ 1024 * w + 1024 * w = omega arith in
    ap (λ m. drop (1024 * w) (take m (drop (1024 * (w * 2) * j) xs))) twice
    ∙ drop-take (1024 * w) (1024 * w) (drop (1024 * (w * 2) * j) xs)
    ∙ ap (take (1024 * w)) (drop-drop (1024 * w) (1024 * (w * 2) * j) xs ∙ ap (λ m. drop m xs) at)

-- the top over a full part is the parent of the tops over its halves
pub part-joined : (level j : ℕ) (mode : Mode) (first : ℕ) (xs : List ℕ)
    → 1024 * 2 ^ suc level * j + 1024 * 2 ^ suc level ≤ length xs
    → top mode (first + 2 ^ suc level * j) (part (2 ^ suc level) j xs) ≡ parent_node mode
    (chaining (top mode (first + 2 ^ level * (2 * j)) (part (2 ^ level) (2 * j) xs)))
    (chaining (top mode (first + 2 ^ level * (2 * j + 1)) (part (2 ^ level) (2 * j + 1) xs)))
part-joined level j mode first xs fits =
    let w : ℕ = 2 ^ level in
    let twice : 2 ^ suc level ≡ w * 2 = pow-suc 2 level in
    let some = pow_pos level in
    let long : length (part (2 ^ suc level) j xs) ≡ 1024 * 2 ^ suc level =
    length-take-le (1024 * 2 ^ suc level) (drop (1024 * 2 ^ suc level * j) xs)
    (omega (arith, length-drop (1024 * 2 ^ suc level * j) xs)) in
    let left_at : first + 2 ^ suc level * j ≡ first + w * (2 * j) = ap (λ n. first + n * j) twice ∙ omega arith in
    let right_at : first + 2 ^ suc level * j + w ≡ first + w * (2 * j + 1) = ap (λ n. first + n * j + w) twice
    ∙ omega arith in
    let left_is : take (1024 * w) (part (2 ^ suc level) j xs) ≡ part w (2 * j) xs =
    ap (λ n. take (1024 * w) (part n j xs)) twice ∙ part-left w j xs in
    let right_is : drop (1024 * w) (part (2 ^ suc level) j xs) ≡ part w (2 * j + 1) xs =
    ap (λ n. drop (1024 * w) (part n j xs)) twice ∙ part-right w j xs in
    top-joined level mode (first + 2 ^ suc level * j) (part (2 ^ suc level) j xs) (omega (arith, long, twice))
    (omega (arith, long))
    ∙ (λ i. parent_node mode (chaining (top mode (left_at i) (left_is i)))
    (chaining (top mode (right_at i) (right_is i))))

-- the chaining value of the tree over part j, of parts of 2 ^ level chunks
abbrev pub part_chaining : ℕ → Mode → ℕ → List ℕ → ℕ → List ℕ
part_chaining level mode first xs j = chaining (top mode (first + 2 ^ level * j) (part (2 ^ level) j xs))

-- one level up: the parents of parts two by two
pub parts-up : (level n : ℕ) (mode : Mode) (first : ℕ) (xs : List ℕ) (e : ℕ → List ℕ)
    → 1024 * 2 ^ suc level * n ≤ length xs
    → ((j : ℕ) → j < 2 * n → e j ≡ part_chaining level mode first xs j)
    → (j : ℕ) → j < n → chaining (parent_node mode (e (2 * j)) (e (2 * j + 1)))
    ≡ part_chaining (suc level) mode first xs j
parts-up level n mode first xs e fits each j lt =
    let left_is = each (2 * j) (omega arith) in
    let right_is = each (2 * j + 1) (omega arith) in
    let w : ℕ = 1024 * 2 ^ suc level in
    let within : w * j + w ≤ length xs = omega (arith, column_fits w j w n lt (omega arith)) in
    (λ i. chaining (parent_node mode (left_is i) (right_is i)))
    ∙ ap chaining (sym (part-joined level j mode first xs within))

-- the parts of the front half and of the back half, of eight parts each
pub halves-front : (level : ℕ) (mode : Mode) (first n : ℕ) (xs : List ℕ) (j : ℕ) → j < 8 → n ≡ 8192 * 2 ^ level
    → part_chaining level mode first (take n xs) j ≡ part_chaining level mode first xs j
halves-front level mode first n xs j lt n_is =
    let w : ℕ = 2 ^ level in
    let within : 1024 * w * j + 1024 * w ≤ n =
    omega (arith, n_is, column_fits (1024 * w) j (1024 * w) 8 lt (omega arith)) in
    ap (λ p. chaining (top mode (first + w * j) p)) (part-front w j n xs within)

pub halves-back : (level : ℕ) (mode : Mode) (first next n : ℕ) (xs : List ℕ) (j : ℕ) → n ≡ 8192 * 2 ^ level
    → next ≡ first + 8 * 2 ^ level
    → part_chaining level mode next (drop n xs) j ≡ part_chaining level mode first xs (j + 8)
halves-back level mode first next n xs j n_is next_is =
    let w : ℕ = 2 ^ level in
    let place : n + 1024 * w * j ≡ 1024 * w * (j + 8) = ap (λ m. m + 1024 * w * j) n_is ∙ omega arith in
    let number : next + w * j ≡ first + w * (j + 8) = ap (λ m. m + w * j) next_is ∙ omega arith in
    λ i. chaining (top mode (number i) (part-back w j (j + 8) n xs place i))

-- eight parts of one chunk each
pub parts-chunks : (mode : Mode) (first : ℕ) (xs : List ℕ) (j : ℕ)
    → chunk_chaining mode first xs j ≡ part_chaining 0 mode first xs j
parts-chunks mode first xs j =
    let chunk = take 1024 (drop (1024 * j) xs) in
    let short : length chunk ≤ 1024 = omega (arith, length-take 1024 (drop (1024 * j) xs)) in
    let number : first + j ≡ first + 1 * j = omega arith in
    ap chaining (sym (top-chunk mode (first + j) chunk short)) ∙ ap (λ n. chaining (top mode n chunk)) number

-- the top over eight parts, from their chaining values
pub parts-top : (level : ℕ) (mode : Mode) (first : ℕ) (xs : List ℕ) (e : ℕ → List ℕ) → length xs ≡ 8192 * 2 ^ level
    → ((j : ℕ) → j < 8 → e j ≡ part_chaining level mode first xs j)
    → (let f : ℕ → List ℕ = λ j. chaining (parent_node mode (e (2 * j)) (e (2 * j + 1))) in
    let g : ℕ → List ℕ = λ j. chaining (parent_node mode (f (2 * j)) (f (2 * j + 1))) in
    parent_node mode (g 0) (g 1) ≡ top mode first xs)
parts-top level mode first xs e long each =
    let f : ℕ → List ℕ = λ j. chaining (parent_node mode (e (2 * j)) (e (2 * j + 1))) in
    let g : ℕ → List ℕ = λ j. chaining (parent_node mode (f (2 * j)) (f (2 * j + 1))) in
    let t1 = pow-suc 2 level in
    let t2 = pow-suc 2 (suc level) in
    let t3 = pow-suc 2 (suc (suc level)) in
    let f_is = parts-up level 4 mode first xs e (omega (arith, long, t1)) each in
    let g_is = parts-up (suc level) 2 mode first xs f (omega (arith, long, t1, t2)) f_is in
    let none : 1024 * 2 ^ suc (suc (suc level)) * 0 ≡ 0 = omega arith in
    let whole : part (2 ^ suc (suc (suc level))) 0 xs ≡ xs =
    ap (λ n. take (1024 * 2 ^ suc (suc (suc level))) (drop n xs)) none
    ∙ take_all (1024 * 2 ^ suc (suc (suc level))) xs (omega (arith, long, t1, t2, t3)) in
    let start : first + 2 ^ suc (suc (suc level)) * 0 ≡ first = omega arith in
    (λ i. parent_node mode (g_is 0 (omega arith) i) (g_is 1 (omega arith) i))
    ∙ sym (part-joined (suc (suc level)) 0 mode first xs (omega (arith, long, t1, t2, t3)))
    ∙ (λ i. top mode (start i) (whole i))

-- a power of two is twice the one before
pub halved : (level : ℕ) → 0 < level → 2 ^ level ≡ 2 ^ (level - 1) * 2
halved level some =
    let up : level ≡ suc (level - 1) = omega arith in
    ap (λ l. 2 ^ l) up ∙ pow-suc 2 (level - 1)

-- the parents of eight parts of the front half and of eight parts of the back half, in order
pub subtrees-joined : (level : ℕ) (mode : Mode) (first next n : ℕ) (xs : List ℕ) (left right up : ℕ → List ℕ)
    → length xs ≡ 16384 * 2 ^ level → n ≡ 8192 * 2 ^ level → next ≡ first + 8 * 2 ^ level
    → ((j : ℕ) → j < 8 → left j ≡ part_chaining level mode first (take n xs) j)
    → ((j : ℕ) → j < 8 → right j ≡ part_chaining level mode next (drop n xs) j)
    → ((j : ℕ) → j < 4 → up j ≡ chaining (parent_node mode (left (2 * j)) (left (2 * j + 1))))
    → ((j : ℕ) → j < 4 → up (j + 4) ≡ chaining (parent_node mode (right (2 * j)) (right (2 * j + 1))))
    → (j : ℕ) → j < 8 → up j ≡ part_chaining (suc level) mode first xs j
subtrees-joined level mode first next n xs left right up long n_is next_is left_is right_is front back j lt =
    let w : ℕ = 1024 * 2 ^ suc level in
    let within : w * j + w ≤ length xs = omega (arith, long, pow-suc 2 level, column_fits w j w 8 lt (omega arith)) in
    let parent_is = ap chaining (sym (part-joined level j mode first xs within)) in
    elim (cases_lt j 4) [
      | inl low ↦
          let a = left_is (2 * j) (omega arith) ∙ halves-front level mode first n xs (2 * j) (omega arith) n_is in
          let b = left_is (2 * j + 1) (omega arith)
          ∙ halves-front level mode first n xs (2 * j + 1) (omega arith) n_is in
          front j low ∙ (λ i. chaining (parent_node mode (a i) (b i))) ∙ parent_is
      | inr high ↦
          let k : ℕ = j - 4 in
          let at : j ≡ k + 4 = omega arith in
          let even_at : 2 * k + 8 ≡ 2 * j = omega arith in
          let odd_at : 2 * k + 1 + 8 ≡ 2 * j + 1 = omega arith in
          let a = right_is (2 * k) (omega arith) ∙ halves-back level mode first next n xs (2 * k) n_is next_is
          ∙ ap (part_chaining level mode first xs) even_at in
          let b = right_is (2 * k + 1) (omega arith) ∙ halves-back level mode first next n xs (2 * k + 1) n_is next_is
          ∙ ap (part_chaining level mode first xs) odd_at in
          ap up at ∙ back k (omega arith) ∙ (λ i. chaining (parent_node mode (a i) (b i))) ∙ parent_is
    ]
