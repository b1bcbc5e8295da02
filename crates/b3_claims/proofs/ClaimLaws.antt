-- Each step of a seat keeps the claims lawful, and what lawful claims say of one seat.
use Rattle.std.proofs.Common.{◌≡◌, ◌≢◌, ◌⊎◌, ℕ, zero, suc, ◌+◌, ◌<◌, ◌≤◌, Bool, true, false, eqb, true≢false, List, [], ◌∷◌, ◌++◌, length, set, All, refl, sym, subst, ap, ◌∙◌, inl, inr, ⊎_elim, arith, length-set}
use Rattle.std.specs.List.{sum_by}
use Rattle.std.specs.Prelude.{slice_index}
use Rattle.std.proofs.lemmas.List.Elements.{All-append, All-push, All-set, All-weaker}
use Rattle.std.proofs.lemmas.List.Sums.{sum_by_push}
use mathlib.Core.Option.{some}
use mathlib.Core.Logic.{dite}
use native.Mathlib.Decide.{ℕ_discrete}
use lib.ListN.{get_elem?}
use Rattle.b3_claims.specs.declared.claim_rule.View.{View}
use Rattle.b3_claims.specs.Claiming.{one_if, occurrences, is_set, united, tried, one_less, one_part, joined}
use Rattle.b3_claims.specs.ClaimRule.{spent, IsLawfulView, AreLawful, IsSound}
use Rattle.b3_claims.proofs.ClaimedIndexes.{All-occurrences, is_set-set_kept, is_set-set_other, is_set-set_same, is_set-united_left, is_set-united_right, has_from_united, length-le_from_times, length-united, occurrences-append, occurrences-push_other, occurrences-push_same}
use Rattle.b3_claims.proofs.ClaimWords.{once_from_swap, word-set_bit, word-set_kept, word-set_other, word-set_same, word-set_spare}
use Rattle.b3_claims.proofs.ListPlaces.{All-get_elem?, at-le-sum_by, sum_by-alone, sum_by-set_at}

-- what the rule says of each view
abbrev IsView : ℕ → List ℕ → View → Type 0
IsView n words v = (v ≡ spent) ⊎ IsLawfulView n words v

-- the row has the index
abbrev Has : List Bool → ℕ → Type 0
Has row i = is_set row i ≡ true

-- how many parts a view has, and how often it claimed an index
abbrev parts_of : View → ℕ
parts_of v = v.parts

abbrev times_of : ℕ → View → ℕ
times_of i v = occurrences i v.claimed

Knows_from_part : (n : ℕ) (words : List ℕ) (v : View) → 0 < v.parts → IsView n words v → IsLawfulView n words v
Knows_from_part n words v part e =
    ⊎_elim (λ (s : v ≡ spent). absurd (omega (arith, part, ap parts_of s))) (λ (k : IsLawfulView n words v). k) e

-- the view at a place, where it has a part
pub IsLawfulView-at : (n : ℕ) (words : List ℕ) (views : List View) (id : ℕ) (v : View) → 0 < v.parts
    → AreLawful n words views → get_elem? views id ≡ some v → IsLawfulView n words v
IsLawfulView-at n words views id v part h at =
    Knows_from_part n words v part (All-get_elem? (IsView n words) views id v at h.each_view)

-- a swap

occurrences-tried_same : (v : View) (i : ℕ) (won : Bool) → occurrences i (tried v i won).claimed ≡ occurrences i v.claimed + one_if won
occurrences-tried_same v i true = occurrences-push_same i v.claimed
occurrences-tried_same v i false = omega arith

occurrences-tried_other : (v : View) (i j : ℕ) (won : Bool) → j ≢ i → occurrences j (tried v i won).claimed ≡ occurrences j v.claimed
occurrences-tried_other v i j true other = occurrences-push_other j i v.claimed other
occurrences-tried_other v i j false other = refl

module _ (n : ℕ) (words : List ℕ) (i : ℕ) (wide : length words ≡ n + 1) (below : i < n) where
  IsLawfulView-set_word : (u : View) → IsLawfulView n words u → IsLawfulView n (set words (i + 1) 1) u
  IsLawfulView-set_word u k = record {
    some_part = k.some_part;
    row = k.row;
    own = k.own;
    taken = λ j e. word-set_kept words n i j wide below (k.taken j e);
  }

  IsView-set_word : (u : View) → IsView n words u → IsView n (set words (i + 1) 1) u
  IsView-set_word u e = ⊎_elim (λ (s : u ≡ spent). inl s) (λ (k : IsLawfulView n words u). inr (IsLawfulView-set_word u k)) e

  IsLawfulView-tried : (v : View) (won : Bool) → IsLawfulView n words v → IsLawfulView n (set words (i + 1) 1) (tried v i won)
  IsLawfulView-tried v won k = record {
    some_part = k.some_part;
    row = length-set v.seen i true ∙ k.row;
    own = own won;
    taken = λ j s. dite (ℕ_discrete j i)
        (λ same. subst (λ (m : ℕ). slice_index (set words (i + 1) 1) (m + 1) ≡ 1) (sym same)
        (word-set_same words n i wide below))
        (λ other. word-set_kept words n i j wide below (k.taken j (sym (is_set-set_other v.seen i j other) ∙ s)));
  }
    where
      kept : All (Has (set v.seen i true)) v.claimed
      kept = All-weaker (Has v.seen) (Has (set v.seen i true)) (is_set-set_kept v.seen i) v.claimed k.own

      own : (b : Bool) → All (Has (set v.seen i true)) (tried v i b).claimed
      own true = All-push (Has (set v.seen i true)) v.claimed i kept
          (is_set-set_same v.seen i (subst (λ (m : ℕ). i < m) (sym k.row) below))
      own false = kept

pub AreLawful-tried : (n : ℕ) (words : List ℕ) (views : List View) (id : ℕ) (v : View) (i : ℕ) (won : Bool) → i < n
    → 0 < v.parts → AreLawful n words views → get_elem? views id ≡ some v
    → eqb (slice_index words (i + 1)) 0 ≡ won → AreLawful n (set words (i + 1) 1) (set views id (tried v i won))
AreLawful-tried n words views id v i won below part h at is = record {
  wide = length-set words (i + 1) 1 ∙ h.wide;
  spare_word = word-set_spare words i ∙ h.spare_word;
  bits = λ j. word-set_bit words (i + 1) j (omega (arith, h.wide, below)) (h.bits j);
  claimed_once = λ j. dite (ℕ_discrete j i)
      (λ same. subst (λ (m : ℕ). sum_by (times_of m) after ≡ slice_index (set words (i + 1) 1) (m + 1)) (sym same)
      won_here)
      (λ other. omega (
        arith,
        sum_by-set_at (times_of j) views id v w at,
        occurrences-tried_other v i j won other,
        h.claimed_once j,
        word-set_other words i j other,
      ));
  parts = omega (arith, sum_by-set_at parts_of views id v w at, h.parts);
  each_view = All-set (IsView n (set words (i + 1) 1)) views id w (inr (IsLawfulView-tried n words i h.wide below v won mine))
      (All-weaker (IsView n words) (IsView n (set words (i + 1) 1)) (IsView-set_word n words i h.wide below) views
      h.each_view);
}
  where
    w : View
    w = tried v i won

    after : List View
    after = set views id w

    mine : IsLawfulView n words v
    mine = IsLawfulView-at n words views id v part h at

    won_here : sum_by (times_of i) after ≡ slice_index (set words (i + 1) 1) (i + 1)
    won_here = omega (
      arith,
      sum_by-set_at (times_of i) views id v w at,
      occurrences-tried_same v i won,
      once_from_swap (slice_index words (i + 1)) (sum_by (times_of i) views) won (h.bits (i + 1)) is (h.claimed_once i),
      word-set_same words n i h.wide below,
    )

-- a part that is handed over

pub AreLawful-split : (n : ℕ) (words : List ℕ) (views : List View) (id : ℕ) (v : View) → 2 ≤ v.parts
    → AreLawful n words views → get_elem? views id ≡ some v
    → AreLawful n words (set views id (one_less v) ++ one_part v ∷ [])
AreLawful-split n words views id v two h at = record {
  wide = h.wide;
  spare_word = h.spare_word;
  bits = h.bits;
  claimed_once = λ j. omega (
    arith,
    sum_by-set_at (times_of j) views id v (one_less v) at,
    sum_by_push (times_of j) left (one_part v),
    h.claimed_once j,
  );
  parts = omega (
    arith,
    two,
    sum_by-set_at parts_of views id v (one_less v) at,
    sum_by_push parts_of left (one_part v),
    h.parts,
  );
  each_view = All-push (IsView n words) left (one_part v)
      (All-set (IsView n words) views id (one_less v) (inr keeps) h.each_view) (inr gets);
}
  where
    left : List View
    left = set views id (one_less v)

    mine : IsLawfulView n words v
    mine = IsLawfulView-at n words views id v (omega (arith, two)) h at

    keeps : IsLawfulView n words (one_less v)
    keeps = record { some_part = omega (arith, two); row = mine.row; own = mine.own; taken = mine.taken }

    gets : IsLawfulView n words (one_part v)
    gets =
        record { some_part = omega arith; row = mine.row; own = λ k d e. absurd (omega (arith, e)); taken = mine.taken }

-- a seat that is joined

IsLawfulView-joined : (n : ℕ) (words : List ℕ) (v w : View) → IsLawfulView n words v → IsLawfulView n words w → IsLawfulView n words (joined v w)
IsLawfulView-joined n words v w mine theirs = record {
  some_part = omega (arith, mine.some_part);
  row = length-united v.seen w.seen (mine.row ∙ sym theirs.row) ∙ mine.row;
  own = All-append (Has (united v.seen w.seen)) v.claimed w.claimed
      (All-weaker (Has v.seen) (Has (united v.seen w.seen)) (is_set-united_left v.seen w.seen) v.claimed mine.own)
      (All-weaker (Has w.seen) (Has (united v.seen w.seen)) (is_set-united_right v.seen w.seen) w.claimed theirs.own);
  taken = λ j e. ⊎_elim (λ (x : is_set v.seen j ≡ true). mine.taken j x) (λ (x : is_set w.seen j ≡ true). theirs.taken j x)
      (has_from_united v.seen w.seen j e);
}

pub AreLawful-joined : (n : ℕ) (words : List ℕ) (views : List View) (id : ℕ) (v : View) (other : ℕ) (w : View)
    → 0 < v.parts → 0 < w.parts → AreLawful n words views
    → get_elem? views id ≡ some v → get_elem? views other ≡ some w
    → get_elem? (set views id (joined v w)) other ≡ some w
    → AreLawful n words (set (set views id (joined v w)) other spent)
AreLawful-joined n words views id v other w part their_part h at their_at there = record {
  wide = h.wide;
  spare_word = h.spare_word;
  bits = h.bits;
  claimed_once = λ j. omega (
    arith,
    sum_by-set_at (times_of j) views id v both at,
    sum_by-set_at (times_of j) (set views id both) other w spent there,
    occurrences-append j v.claimed w.claimed,
    h.claimed_once j,
  );
  parts = omega (
    arith,
    sum_by-set_at parts_of views id v both at,
    sum_by-set_at parts_of (set views id both) other w spent there,
    h.parts,
  );
  each_view = All-set (IsView n words) (set views id both) other spent (inl refl)
      (All-set (IsView n words) views id both (inr (IsLawfulView-joined n words v w mine theirs)) h.each_view);
}
  where
    both : View
    both = joined v w

    mine : IsLawfulView n words v
    mine = IsLawfulView-at n words views id v part h at

    theirs : IsLawfulView n words w
    theirs = IsLawfulView-at n words views other w their_part h their_at

-- what the law says of one view

at_most_one : (t word : ℕ) (b : Bool) → t ≤ word → word ≤ 1 → (0 < t → b ≡ true) → t ≤ one_if b
at_most_one t word true le bit own = omega (arith, le, bit)
at_most_one zero word false le bit own = omega arith
at_most_one (suc t) word false le bit own = absurd (true≢false (sym (own (omega arith))))

exactly_one : (t : ℕ) (b : Bool) → t ≤ one_if b → (b ≡ true → t ≡ 1) → t ≡ one_if b
exactly_one t true le one = one refl
exactly_one t false le one = omega (arith, le)

pub IsSound_from_AreLawful : (n : ℕ) (words : List ℕ) (views : List View) (id : ℕ) (v : View) → 0 < v.parts
    → AreLawful n words views → get_elem? views id ≡ some v → IsSound v
IsSound_from_AreLawful n words views id v part h at = record {
  few = omega (arith, at-le-sum_by parts_of views id v at, h.parts);
  room = length-le_from_times v.claimed v.seen once;
  once = once;
  whole = whole;
}
  where
    mine : IsLawfulView n words v
    mine = IsLawfulView-at n words views id v part h at

    once : (i : ℕ) → occurrences i v.claimed ≤ one_if (is_set v.seen i)
    once i = at_most_one (occurrences i v.claimed) (slice_index words (i + 1)) (is_set v.seen i)
        (omega (arith, at-le-sum_by (times_of i) views id v at, h.claimed_once i)) (h.bits (i + 1))
        (All-occurrences (Has v.seen) i v.claimed mine.own)

    -- a view with no part has claimed nothing
    vanishes : (i : ℕ) (u : View) → IsView n words u → parts_of u ≡ 0 → times_of i u ≡ 0
    vanishes i u e none = ⊎_elim (λ (s : u ≡ spent). ap (times_of i) s)
        (λ (k : IsLawfulView n words u). absurd (omega (arith, none, k.some_part))) e

    whole : v.parts ≡ 128 → (i : ℕ) → occurrences i v.claimed ≡ one_if (is_set v.seen i)
    whole all i = exactly_one (occurrences i v.claimed) (is_set v.seen i) (once i) (λ seen. omega (
      arith,
      sum_by-alone (times_of i) parts_of views id v at
          (All-weaker (IsView n words) (λ u. parts_of u ≡ 0 → times_of i u ≡ 0) (vanishes i) views h.each_view)
          (all ∙ sym h.parts),
      h.claimed_once i,
      mine.taken i seen,
    ))
