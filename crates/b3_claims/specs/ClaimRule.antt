-- The rule of the claim words: what holds of the words and of what the seats know between any two steps, what each step
-- tells the seat that makes it, and what a seat keeps of that.
use Rattle.std.specs.Prelude.{◌≡◌, ◌⊎◌, ℕ, ◌+◌, ◌<◌, ◌≤◌, true, ◌==◌, List, [], length, slice_index, sum_by, All}
use Rattle.atomic_table.specs.Table.{Me, Step}
use Rattle.b3_claims.specs.Claiming.{is_set, one_if, occurrences, tried}
use Rattle.b3_claims.specs.declared.claim_rule.View.{View}

-- what is left of a seat that was joined to another
abbrev pub spent : View
spent = record { parts = 0; claimed = []; seen = [] }

-- a view that is not spent: it has a part, it has seen each index that it claimed, and the word of each index
-- that it has seen is 1
pub record IsLawfulView (n : ℕ) (words : List ℕ) (v : View) : Type 0 where
  pub some_part : 0 < v.parts
  pub row : length v.seen ≡ n
  pub own : All (λ i. is_set v.seen i ≡ true) v.claimed
  pub taken : (i : ℕ) → is_set v.seen i ≡ true → slice_index words (i + 1) ≡ 1

-- Lawful claims. Word 0 is the spare one, and the word of index i stands at place i + 1; past the last word
-- `slice_index` gives 0, so no index from n up stands in a list.
pub record AreLawful (n : ℕ) (words : List ℕ) (views : List View) : Type 0 where
  pub wide : length words ≡ n + 1
  pub spare_word : slice_index words 0 ≡ 0
  -- each word is 0 or 1
  pub bits : (i : ℕ) → slice_index words i ≤ 1
  -- index i stands in all lists together as often as its word says
  pub claimed_once : (i : ℕ) → sum_by (λ v. occurrences i v.claimed) views ≡ slice_index words (i + 1)
  -- the parts add up to 128
  pub parts : sum_by (λ v. v.parts) views ≡ 128
  pub each_view : All (λ v. (v ≡ spent) ⊎ IsLawfulView n words v) views

-- what a swap of a word by 1 tells: where it found 0 the index is won, and there was room in the list; where it
-- found 1 the index is lost
abbrev pub Tried : Step (Unit {0}) → Me (Unit {0}) View → ℕ → Me (Unit {0}) View → Type 0
Tried s v found w = (i : ℕ) → s.word ≡ i + 1
    → (w ≡ (tried v.0 i (found == 0), v.1)) × (found == 0 ≡ true → length v.0.claimed < length v.0.seen)

-- no index stands twice in the list, and each that does was seen; with all parts, each that was seen stands there
pub record IsSound (v : View) : Type 0 where
  pub few : v.parts ≤ 128
  pub room : length v.claimed ≤ length v.seen
  pub once : (i : ℕ) → occurrences i v.claimed ≤ one_if (is_set v.seen i)
  pub whole : v.parts ≡ 128 → (i : ℕ) → occurrences i v.claimed ≡ one_if (is_set v.seen i)

-- what a look at the spare word tells
abbrev pub Told : Step (Unit {0}) → Me (Unit {0}) View → ℕ → Me (Unit {0}) View → Type 0
Told s v found w = (w ≡ v) × IsSound v.0

-- what the fields of a seat keep: its parts and its list are those of what it knows, it has a part and no more
-- than all, and it holds no slot
pub record KeepsSeat (me : Me (Unit {0}) View) (parts : ℕ) (claimed : List ℕ) : Type 0 where
  pub parts_are : me.0.parts ≡ parts
  pub list_is : me.0.claimed ≡ claimed
  pub some : 0 < parts
  pub most : parts ≤ 128
  pub no_slot : me.1 ≡ []
