-- The stack of chaining values: the values of one level more, and how a new subtree's value is merged.
use Rattle.std.proofs.Common.{◌≡◌, ℕ, zero, suc, ◌+◌, ◌-◌, ◌*◌, ◌/◌, ◌%◌, ◌^◌, ◌<◌, ◌≤◌, List, [], ◌∷◌, ◌++◌, length}
use Rattle.std.proofs.Common.{inl, inr, refl, sym, ap, ◌∙◌, add-one, arith}
use Rattle.std.proofs.Math.Nat.{pow-suc}
use Rattle.std.proofs.lemmas.List.{same_from_push}
use Rattle.b3_core.specs.Nodes.{chaining}
use Rattle.b3_core.specs.Tree.{parent_node}
use Rattle.b3_core.specs.declared.modes.Mode.{Mode}
use Rattle.b3_hash.specs.Stacks.{stack_of, subtree_chaining}
use Rattle.b3_hash.proofs.ChunkCounts.{bytes-above, bytes-half, div-pow-suc, parity}
use Rattle.b3_hash.proofs.Runs.{subtree_chaining-append, subtree_chaining-suc}

-- where n is even, the runs go in pairs
pub stack_of-even : (digits level : ℕ) (mode : Mode) (input : List ℕ) (n : ℕ) → n % 2 ≡ 0
    → stack_of (suc digits) level mode input n ≡ stack_of digits (suc level) mode input (n / 2)
unfolding stack_of
stack_of-even digits level mode input n even = rw even refl

-- where n is odd, the last run stands on the top
pub stack_of-odd : (digits level : ℕ) (mode : Mode) (input : List ℕ) (n : ℕ) → n % 2 ≡ 1
    → stack_of (suc digits) level mode input n
    ≡ stack_of digits (suc level) mode input (n / 2) ++ subtree_chaining mode level input (n - 1) ∷ []
unfolding stack_of
stack_of-odd digits level mode input n odd = rw odd refl

-- no runs, no values
pub stack_of-none : (digits level : ℕ) (mode : Mode) (input : List ℕ) → stack_of digits level mode input 0 ≡ []
unfolding stack_of
stack_of-none zero level mode input = refl
stack_of-none (suc digits) level mode input = stack_of-none digits (suc level) mode input

-- the stack does not change where bytes are appended
pub stack_of-append : (digits level : ℕ) (mode : Mode) (input more : List ℕ) (n : ℕ)
    → 1024 * 2 ^ level * n ≤ length input
    → stack_of digits level mode (input ++ more) n ≡ stack_of digits level mode input n
unfolding stack_of
stack_of-append zero level mode input more n within = refl
stack_of-append (suc digits) level mode input more n within =
    let half = bytes-half level n in
    let others = stack_of-append digits (suc level) mode input more (n / 2) (omega arith) in
    elim (parity n) [
      | inl even ↦ stack_of-even digits level mode (input ++ more) n even ∙ others
          ∙ sym (stack_of-even digits level mode input n even)
      | inr odd ↦
          let count : n - 1 + 1 ≡ n = omega arith in
          let last : subtree_chaining mode level (input ++ more) (n - 1) ≡ subtree_chaining mode level input (n - 1) =
          subtree_chaining-append level mode input more (n - 1) (rw count within) in
          stack_of-odd digits level mode (input ++ more) n odd
          ∙ (λ i. others i ++ last i ∷ [])
          ∙ sym (stack_of-odd digits level mode input n odd)
    ]

-- `total` runs of a level, the last of them new; the last run of 2 ^ rise of them, which ends with it,
-- has this value, and the stack is that of the runs before
pub record IsMerged (mode : Mode) (input : List ℕ) (digits base total rise : ℕ) (values : List (List ℕ))
    (value : List ℕ) : Type 0 where
  pub last : value ≡ subtree_chaining mode (base + rise) input (total / 2 ^ rise - 1)
  pub before : values ≡ stack_of (digits - rise) (base + rise) mode input (total / 2 ^ rise - 1)
  pub whole : stack_of (digits - rise) (base + rise) mode input (total / 2 ^ rise)
      ≡ stack_of digits base mode input total

-- two runs of a level become one run of the next
pub IsMerged-suc : (mode : Mode) (input : List ℕ) (digits base total rise : ℕ)
    → (values others : List (List ℕ)) (value left next : List ℕ)
    → IsMerged mode input digits base total rise values value
    → rise < digits → 1024 * 2 ^ base * total ≤ length input
    → 0 < total / 2 ^ rise → total / 2 ^ rise % 2 ≡ 0
    → values ≡ others ++ left ∷ []
    → next ≡ chaining (parent_node mode left value)
    → IsMerged mode input digits base total (rise + 1) others next
IsMerged-suc mode input digits base total rise values others value left next merged high long some even popped next_is =
    let n = total / 2 ^ rise in
    let level = base + rise in
    let fewer = digits - suc rise in
    let i = n / 2 - 1 in
    let half : total / 2 ^ suc rise ≡ n / 2 = div-pow-suc total rise in
    let digits_is : digits - rise ≡ suc fewer = omega arith in
    let odd : (n - 1) % 2 ≡ 1 = omega arith in
    let pair : (n - 1) / 2 ≡ i = omega arith in
    let left_is : n - 1 - 1 ≡ 2 * i = omega arith in
    let right_is : n - 1 ≡ 2 * i + 1 = omega arith in
    let runs : 2 * i + 2 ≡ n = omega arith in
    let all : 1024 * 2 ^ level * n ≤ 1024 * 2 ^ base * total = bytes-above base rise total in
    let within : 1024 * 2 ^ level * (2 * i + 2) ≤ length input = rw runs (omega arith) in
    let stack : others ++ left ∷ [] ≡ stack_of fewer (suc level) mode input i
    ++ subtree_chaining mode level input (2 * i) ∷ [] =
    sym popped
    ∙ merged.before
    ∙ ap (λ d. stack_of d level mode input (n - 1)) digits_is
    ∙ stack_of-odd fewer level mode input (n - 1) odd
    ∙ (λ j. stack_of fewer (suc level) mode input (pair j) ++ subtree_chaining mode level input (left_is j) ∷ []) in
    let parts =
    same_from_push others (stack_of fewer (suc level) mode input i) left
    (subtree_chaining mode level input (2 * i)) stack in
    let right : value ≡ subtree_chaining mode level input (2 * i + 1) = merged.last
    ∙ ap (subtree_chaining mode level input) right_is in
    let above : total / 2 ^ suc rise - 1 ≡ i = ap (λ k. k - 1) half in
    let up : suc level ≡ base + suc rise = omega arith in
    rw add-one (record {
      last = next_is
          ∙ (λ j. chaining (parent_node mode (parts.1 j) (right j)))
          ∙ sym (subtree_chaining-suc level mode input i within)
          ∙ (λ j. subtree_chaining mode (up j) input (sym above j));
      before = parts.0 ∙ (λ j. stack_of fewer (up j) mode input (sym above j));
      whole = (λ j. stack_of fewer (sym up j) mode input (half j))
          ∙ sym (stack_of-even fewer level mode input n even)
          ∙ ap (λ d. stack_of d level mode input n) (sym digits_is)
          ∙ merged.whole;
    })

-- an odd number of runs: the last one stays for itself
pub IsMerged-odd : (mode : Mode) (input : List ℕ) (digits base total rise : ℕ) (values : List (List ℕ)) (value : List ℕ)
    → IsMerged mode input digits base total rise values value
    → rise < digits → total / 2 ^ rise % 2 ≡ 1
    → values ++ value ∷ [] ≡ stack_of digits base mode input total
IsMerged-odd mode input digits base total rise values value merged high odd =
    let n = total / 2 ^ rise in
    let level = base + rise in
    let fewer = digits - suc rise in
    let digits_is : digits - rise ≡ suc fewer = omega arith in
    let even : (n - 1) % 2 ≡ 0 = omega arith in
    let pair : (n - 1) / 2 ≡ n / 2 = omega arith in
    let stack : values ≡ stack_of fewer (suc level) mode input (n / 2) =
    merged.before
    ∙ ap (λ d. stack_of d level mode input (n - 1)) digits_is
    ∙ stack_of-even fewer level mode input (n - 1) even
    ∙ ap (stack_of fewer (suc level) mode input) pair in
    (λ j. stack j ++ merged.last j ∷ [])
    ∙ sym (stack_of-odd fewer level mode input n odd)
    ∙ ap (λ d. stack_of d level mode input n) (sym digits_is)
    ∙ merged.whole

-- nothing is merged yet
pub IsMerged-none : (mode : Mode) (input : List ℕ) (digits base total : ℕ) (values : List (List ℕ)) (value : List ℕ)
    → value ≡ subtree_chaining mode base input (total - 1)
    → values ≡ stack_of digits base mode input (total - 1)
    → IsMerged mode input digits base total 0 values value
IsMerged-none mode input digits base total values value value_is values_is =
    let one : total / 2 ^ 0 ≡ total = omega arith in
    let less : total - 1 ≡ total / 2 ^ 0 - 1 = omega arith in
    let level : base ≡ base + 0 = omega arith in
    let all : digits ≡ digits - 0 = omega arith in record {
      last = value_is ∙ (λ j. subtree_chaining mode (level j) input (less j));
      before = values_is ∙ (λ j. stack_of (all j) (level j) mode input (less j));
      whole = λ j. stack_of (sym all j) (sym level j) mode input (one j);
    }

-- the stack over whole runs of a level is that of the level
pub stack_of-level : (rise digits base : ℕ) (mode : Mode) (input : List ℕ) (n : ℕ)
    → stack_of (rise + digits) base mode input (2 ^ rise * n) ≡ stack_of digits (base + rise) mode input n
stack_of-level zero digits base mode input n =
    let one : 2 ^ 0 * n ≡ n = omega arith in
    let level : base ≡ base + 0 = omega arith in
    let all : 0 + digits ≡ digits = omega arith in
    λ j. stack_of (all j) (level j) mode input (one j)
stack_of-level (suc rise) digits base mode input n =
    let twice : 2 ^ suc rise * n ≡ 2 * (2 ^ rise * n) = ap (λ p. p * n) (pow-suc 2 rise) ∙ omega arith in
    let even : 2 ^ suc rise * n % 2 ≡ 0 = omega arith in
    let half : 2 ^ suc rise * n / 2 ≡ 2 ^ rise * n = omega arith in
    let level : suc base + rise ≡ base + suc rise = omega arith in
    let more : suc rise + digits ≡ suc (rise + digits) = omega arith in
    ap (λ d. stack_of d base mode input (2 ^ suc rise * n)) more
    ∙ stack_of-even (rise + digits) base mode input (2 ^ suc rise * n) even
    ∙ ap (stack_of (rise + digits) (suc base) mode input) half
    ∙ stack_of-level rise digits (suc base) mode input n
    ∙ ap (λ l. stack_of digits l mode input n) level

-- the stack over whole runs of a level, of all digits
pub stack_of-runs : (level : ℕ) (mode : Mode) (input : List ℕ) (n count : ℕ) → level ≤ 54 → 2 ^ level * n ≡ count
    → stack_of 54 0 mode input count ≡ stack_of (54 - level) level mode input n
stack_of-runs level mode input n count low whole =
    let digits : 54 ≡ level + (54 - level) = omega arith in
    let same : 0 + level ≡ level = omega arith in
    (λ i. stack_of (digits i) 0 mode input (sym whole i))
    ∙ stack_of-level level (54 - level) 0 mode input n
    ∙ ap (λ l. stack_of (54 - level) l mode input n) same
