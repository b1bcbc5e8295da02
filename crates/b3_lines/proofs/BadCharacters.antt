-- NUL and U+FFFD in names.
use Rattle.std.proofs.Common.{◌≡◌, ℕ, zero, suc, Bool, true, false, ◌||◌, ◌&&◌, ◌==◌, List, [], ◌∷◌, take, drop, slice_index, Option, Some, None, is_none, is_some, add-zero, suc-add, zero-add, refl, sym, ap, ◌∙◌, arith, inl, inr}
use Rattle.std.specs.List.{list_any, starts_with}
use Rattle.std.specs.Prelude.{nat_eq}
use Rattle.std.specs.Cmp.Lexicographic.{pointwise}
use Rattle.std.proofs.lemmas.Bool.{eq-eqb, false_from_ne_true, or_cases, or_left, or_parts, or_right}
use Rattle.std.proofs.lemmas.Bool.Decides.{Decides-eqb}
use Rattle.std.proofs.lemmas.List.Folds.{list_any_at, list_any_none}
use Rattle.std.proofs.lemmas.List.{get_or_default}
use Rattle.std.proofs.lemmas.List.Prefix.{front_fits, front_from_reads, front_reads}
use Rattle.std.proofs.lemmas.Slice.Eq.{starts_is}
use Rattle.memchr.specs.Find.{FindsNeedle, IsFirstByte, OccursAt, is_byte2}
use Rattle.b3_lines.specs.Names.{Spells, backslash, carriage_return, has_bad_escape, holds_bad_character, holds_replacement_character, itself, line_feed, no_bytes, replacement_character}
use Rattle.b3_lines.specs.Reading.{name_of}
use Rattle.b3_lines.proofs.Escapes.{Spells-unescaped}

-- ---- as a search finds them

-- a search for a byte finds one where the list has one
pub is_some-IsFirstByte : (p : ℕ → Bool) (s : List ℕ) (r : Option ℕ) → IsFirstByte p s r → is_some r ≡ list_any p s
is_some-IsFirstByte p s None none =
    sym (list_any_none p s
    (λ k d within. rw (get_or_default s k d 0 within) (false_from_ne_true _ (none k (omega arith) within))))
is_some-IsFirstByte p s (Some k) found = sym (list_any_at p s k 0 found.0.high found.1)

-- the test at a byte and what follows it
holds_replacement_character-cons : (b : ℕ) (s : List ℕ)
    → holds_replacement_character (b ∷ s) ≡ (starts_with nat_eq (b ∷ s) replacement_character
    || holds_replacement_character s)
unfolding holds_replacement_character
holds_replacement_character-cons b s = refl

-- nothing holds U+FFFD in no bytes
holds_replacement_character-nil : holds_replacement_character [] ≡ false
unfolding holds_replacement_character
holds_replacement_character-nil = refl

-- U+FFFD in front is what the test tells
starts-from_occurs : (s : List ℕ) → OccursAt s replacement_character 0
    → starts_with nat_eq s replacement_character ≡ true
starts-from_occurs s occurs =
    (starts_is Decides-eqb s replacement_character (starts_with nat_eq s replacement_character) refl).1 (drop 3 s)
    (front_from_reads 0 s replacement_character occurs.fits
    (λ j within. ap (slice_index s) (sym (zero-add j)) ∙ occurs.reads j within))

-- and back
occurs-from_starts : (s : List ℕ) → starts_with nat_eq s replacement_character ≡ true
    → OccursAt s replacement_character 0
occurs-from_starts s starts =
    let front = (starts_is Decides-eqb s replacement_character (starts_with nat_eq s replacement_character)
    refl).0 starts in
    record {
      fits = front_fits s replacement_character (drop 3 s) front;
      reads = λ j within. ap (slice_index s) (zero-add j)
          ∙ front_reads 0 s replacement_character (drop 3 s) front j within;
    }

-- one place further
occurs-cons : (b : ℕ) (s : List ℕ) (k : ℕ) → OccursAt s replacement_character k
    → OccursAt (b ∷ s) replacement_character (suc k)
occurs-cons b s k occurs =
    record { fits = omega (arith, occurs.fits); reads = λ j within. rw (suc-add k j) (occurs.reads j within) }

-- and one place back
occurs-tail : (b : ℕ) (s : List ℕ) (k : ℕ) → OccursAt (b ∷ s) replacement_character (suc k)
    → OccursAt s replacement_character k
occurs-tail b s k occurs =
    record { fits = omega (arith, occurs.fits); reads = λ j within. rw (suc-add k j) at (occurs.reads j within) }

-- where U+FFFD stands somewhere, the text holds it
holds-from_occurs : (s : List ℕ) (k : ℕ) → OccursAt s replacement_character k → holds_replacement_character s ≡ true
holds-from_occurs [] k occurs = absurd (omega (arith, occurs.fits))
holds-from_occurs (b ∷ s) zero occurs =
    holds_replacement_character-cons b s ∙ or_left _ (holds_replacement_character s) (starts-from_occurs (b ∷ s) occurs)
holds-from_occurs (b ∷ s) (suc k) occurs =
    holds_replacement_character-cons b s
    ∙ or_right (starts_with nat_eq (b ∷ s) replacement_character) _ (holds-from_occurs s k (occurs-tail b s k occurs))

-- where the text holds U+FFFD, it stands somewhere
occurs-from_holds : (s : List ℕ) → holds_replacement_character s ≡ true → (k : ℕ) × OccursAt s replacement_character k
occurs-from_holds [] holds = cc (sym holds_replacement_character-nil ∙ holds)
occurs-from_holds (b ∷ s) holds =
    elim (or_cases (starts_with nat_eq (b ∷ s) replacement_character) (holds_replacement_character s)
    (sym (holds_replacement_character-cons b s) ∙ holds)) [
      | inl here ↦ (0, occurs-from_starts (b ∷ s) here)
      | inr later ↦
          let found = occurs-from_holds s later in
          (suc found.0, occurs-cons b s found.0 found.1)
    ]

-- a search for U+FFFD finds it where the text holds it
pub is_some-FindsNeedle : (s : List ℕ) (r : Option ℕ) → FindsNeedle s replacement_character 0 r
    → is_some r ≡ holds_replacement_character s
is_some-FindsNeedle s None none =
    sym (false_from_ne_true (holds_replacement_character s) (λ holds.
    let found = occurs-from_holds s holds in
    none found.0 (omega arith) (omega (arith, found.1.fits)) found.1))
is_some-FindsNeedle s (Some k) found = sym (holds-from_occurs s k found.1)

-- where neither NUL nor the first byte of U+FFFD stands, there is no bad character
pub holds_bad_character-none : (s : List ℕ) (r : Option ℕ) → IsFirstByte (is_byte2 0 0xEF) s r → is_none r ≡ true
    → holds_bad_character s ≡ false
unfolding holds_bad_character
holds_bad_character-none s (Some k) found is = cc is
holds_bad_character-none s None none is =
    let no_nul = list_any_none (λ b. b == 0) s (λ k d within.
    rw (get_or_default s k d 0 within)
    (or_parts (slice_index s k == 0) _ (false_from_ne_true _ (none k (omega arith) within))).0) in
    let no_replacement = false_from_ne_true (holds_replacement_character s) (λ holds.
    let found = occurs-from_holds s holds in
    let first = ap (slice_index s) (sym (add-zero found.0)) ∙ found.1.reads 0 (omega arith) in
    none found.0 (omega arith) (omega (arith, found.1.fits))
    (or_right (slice_index s found.0 == 0) _ (eq-eqb _ 0xEF first))) in
    ap (λ b. b || holds_replacement_character s) no_nul ∙ no_replacement

-- both searches
pub holds_bad_character-first : (s : List ℕ) → list_any (λ b. b == 0) s ≡ true → holds_bad_character s ≡ true
unfolding holds_bad_character
holds_bad_character-first s nul = or_left _ (holds_replacement_character s) nul

-- without NUL the second search decides
pub holds_bad_character-second : (s : List ℕ) → list_any (λ b. b == 0) s ≡ false
    → holds_bad_character s ≡ holds_replacement_character s
unfolding holds_bad_character
holds_bad_character-second s no_nul = ap (λ b. b || holds_replacement_character s) no_nul

-- ---- in an escaped name

-- whether the last byte of U+FFFD stands in front
ends_one : {text name : List ℕ} → Spells text name
    → pointwise nat_eq (0xBD ∷ []) (take 1 text) ≡ pointwise nat_eq (0xBD ∷ []) (take 1 name)
ends_one no_bytes = refl
ends_one (backslash later) = refl
ends_one (line_feed later) = refl
ends_one (carriage_return later) = refl
ends_one (itself other later) = refl

-- whether its last two bytes do
ends_two : {text name : List ℕ} → Spells text name
    → pointwise nat_eq (0xBF ∷ 0xBD ∷ []) (take 2 text) ≡ pointwise nat_eq (0xBF ∷ 0xBD ∷ []) (take 2 name)
ends_two no_bytes = refl
ends_two (backslash later) = refl
ends_two (line_feed later) = refl
ends_two (carriage_return later) = refl
ends_two (itself {b = b} other later) = ap (λ t. nat_eq 0xBF b && t) (ends_one later)

-- a text holds U+FFFD where the name that it spells does
holds_replacement_character-Spells : {text name : List ℕ} → Spells text name
    → holds_replacement_character text ≡ holds_replacement_character name
unfolding holds_replacement_character
holds_replacement_character-Spells no_bytes = refl
holds_replacement_character-Spells (backslash later) = holds_replacement_character-Spells later
holds_replacement_character-Spells (line_feed later) = holds_replacement_character-Spells later
holds_replacement_character-Spells (carriage_return later) = holds_replacement_character-Spells later
holds_replacement_character-Spells (itself {b = b} {text = text} {name = name} other later) =
    ap (λ t. (nat_eq 0xEF b && t) || holds_replacement_character text) (ends_two later)
    ∙ ap (λ t. (nat_eq 0xEF b && pointwise nat_eq (0xBF ∷ 0xBD ∷ []) (take 2 name)) || t)
    (holds_replacement_character-Spells later)

-- and NUL likewise
list_any-Spells : {text name : List ℕ} → Spells text name → list_any (λ b. b == 0) text ≡ list_any (λ b. b == 0) name
list_any-Spells no_bytes = refl
list_any-Spells (backslash later) = list_any-Spells later
list_any-Spells (line_feed later) = list_any-Spells later
list_any-Spells (carriage_return later) = list_any-Spells later
list_any-Spells (itself {b = b} other later) = ap (λ t. (b == 0) || t) (list_any-Spells later)

-- a text holds a bad character where the name that it spells does
holds_bad_character-Spells : {text name : List ℕ} → Spells text name
    → holds_bad_character text ≡ holds_bad_character name
unfolding holds_bad_character
holds_bad_character-Spells {text = text} {name = name} spells =
    ap (λ t. t || holds_replacement_character text) (list_any-Spells spells)
    ∙ ap (λ t. list_any (λ b. b == 0) name || t) (holds_replacement_character-Spells spells)

-- no bytes hold no bad character
pub holds_bad_character-nil : holds_bad_character [] ≡ false
unfolding holds_bad_character holds_replacement_character
holds_bad_character-nil = refl

-- taking escapes back neither hides a bad character nor makes one
pub holds_bad_character-name_of : (marked : Bool) (raw_name : List ℕ) → (marked && has_bad_escape raw_name) ≡ false
    → holds_bad_character (name_of marked raw_name) ≡ holds_bad_character raw_name
holds_bad_character-name_of false raw_name lawful = refl
holds_bad_character-name_of true raw_name lawful =
    sym (holds_bad_character-Spells (Spells-unescaped raw_name lawful))
