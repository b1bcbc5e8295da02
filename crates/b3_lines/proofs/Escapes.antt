-- Names escaped, and escapes taken back.
use Rattle.std.proofs.Common.{◌≡◌, ◌≢◌, ℕ, zero, suc, ◌+◌, ◌<◌, ◌≤◌, true, false, not, ◌||◌, ◌==◌, List, [], ◌∷◌, ◌++◌, length, take, drop, slice_index, refl, sym, ap, ◌∙◌, arith, inl, inr, append_assoc, append-nil, take_all, length-append}
use Rattle.std.proofs.lemmas.List.{drop_all, drop_more, length-drop, length-take-le}
use Rattle.std.specs.Prelude.{if◌then◌else◌}
use Rattle.std.proofs.lemmas.Bool.{cases_eq, cond-true, cond-false, ne_eqb, eq-eqb, eqb-true, eqb-false, or_parts, or_cases, not-false, cond_both}
use Rattle.std.proofs.lemmas.List.Concat.{flat_map-append}
use Rattle.memchr.specs.Find.{Nowhere, Passes, is_byte}
use Rattle.b3_lines.proofs.Searches.{Nowhere-head, Nowhere-tail}
use Rattle.b3_lines.specs.Names.{Spells, backslash, carriage_return, escape, escape_meaning, escaped, has_bad_escape, is_escaped, itself, line_feed, may_follow_backslash, no_bytes, unescaped}

-- ---- escaped

-- a byte that is not escaped stands for itself
pub escape-itself : (b : ℕ) → is_escaped b ≡ false → escape b ≡ b ∷ []
escape-itself b plain =
    let parts = or_parts (b == 92 || b == 10) (b == 13) plain in
    let front = or_parts (b == 92) (b == 10) parts.0 in
    cond-false (b == 92) _ _ front.0 ∙ cond-false (b == 10) _ _ front.1 ∙ cond-false (b == 13) _ _ parts.1

-- a byte as it is written: one of the three that are escaped, or any other as it is
pub escape-cases : (b : ℕ) (P : List ℕ → Type 0) → (b ≡ 92 → P (escape 92)) → (b ≡ 10 → P (escape 10))
    → (b ≡ 13 → P (escape 13)) → (b ≢ 92 → b ≢ 10 → b ≢ 13 → P (b ∷ [])) → P (escape b)
escape-cases b P at_backslash at_feed at_return other =
    cond_both (b == 92) _ _ P (λ is. at_backslash (eqb-true b 92 is))
    (λ not_backslash. cond_both (b == 10) _ _ P (λ is. at_feed (eqb-true b 10 is))
    (λ not_feed. cond_both (b == 13) _ _ P (λ is. at_return (eqb-true b 13 is))
    (λ not_return. other (eqb-false b 92 not_backslash) (eqb-false b 10 not_feed) (eqb-false b 13 not_return))))

-- nothing is escaped in no bytes
pub escaped-nil : escaped [] ≡ []
unfolding escaped
escaped-nil = refl

-- a byte is escaped, and then what follows it
pub escaped-cons : (b : ℕ) (s : List ℕ) → escaped (b ∷ s) ≡ escape b ++ escaped s
unfolding escaped
escaped-cons b s = refl

-- a byte that is not escaped stands in front of what follows it
escaped-plain : (b : ℕ) (s : List ℕ) → is_escaped b ≡ false → escaped (b ∷ s) ≡ b ∷ escaped s
escaped-plain b s plain = escaped-cons b s ∙ ap (λ e. e ++ escaped s) (escape-itself b plain)

-- two parts are escaped one after the other
pub escaped-append : (s t : List ℕ) → escaped (s ++ t) ≡ escaped s ++ escaped t
unfolding escaped
escaped-append s t = flat_map-append escape s t

-- what is escaped is ASCII
pub escaped-ascii : (b : ℕ) → is_escaped b ≡ true → b < 128
escaped-ascii b special =
    elim (or_cases (b == 92 || b == 10) (b == 13) special) [
      | inl early ↦
          elim (or_cases (b == 92) (b == 10) early) [
            | inl is ↦ omega (arith, eqb-true b 92 is)
            | inr is ↦ omega (arith, eqb-true b 10 is)
          ]
      | inr is ↦ omega (arith, eqb-true b 13 is)
    ]

-- a front with nothing to escape stands as it is
pub escaped-skip : (s : List ℕ) (k : ℕ) → k ≤ length s → Nowhere (Passes is_escaped s) 0 k
    → escaped s ≡ take k s ++ escaped (drop k s)
escaped-skip s zero within none = refl
escaped-skip [] (suc k) within none = absurd (omega arith)
escaped-skip (b ∷ s) (suc k) within none =
    escaped-plain b s (Nowhere-head is_escaped b s k none)
    ∙ ap (λ t. b ∷ t) (escaped-skip s k (omega arith) (Nowhere-tail is_escaped b s k none))

-- a front with nothing to escape, and the byte after it
pub escaped-first : (s : List ℕ) (k : ℕ) → k < length s → Nowhere (Passes is_escaped s) 0 k
    → escaped s ≡ take k s ++ (escape (slice_index s k) ++ escaped (drop (k + 1) s))
escaped-first s k within none =
    escaped-skip s k (omega arith) none
    ∙ ap (λ t. take k s ++ escaped t) (drop_more s k 0 within)
    ∙ ap (λ t. take k s ++ t) (escaped-cons (slice_index s k) (drop (k + 1) s))

-- one turn of a loop that writes the front and the escape after it
pub escaped-step : (line line₁ line₂ s after whole : List ℕ) (k : ℕ) → line ++ escaped s ≡ whole
    → line₁ ≡ line ++ take k s → line₂ ≡ line₁ ++ escape (slice_index s k) → after ≡ drop (k + 1) s
    → k < length s → Nowhere (Passes is_escaped s) 0 k → line₂ ++ escaped after ≡ whole
escaped-step line line₁ line₂ s after whole k kept front escaped_byte rest within none =
    let first = escaped-first s k within none in
    rw (escaped_byte, front, rest, ← kept, first) (simp append_assoc)

-- nothing to escape
pub escaped-none : (s : List ℕ) → Nowhere (Passes is_escaped s) 0 (length s) → escaped s ≡ s
escaped-none s none =
    let skip = escaped-skip s (length s) (omega arith) none in
    let front = take_all (length s) s (omega arith) in
    let rest = drop_all (length s) s (omega arith) in
    skip ∙ ap (λ t. t ++ escaped (drop (length s) s)) front ∙ ap (λ t. s ++ escaped t) rest
    ∙ ap (λ t. s ++ t) escaped-nil ∙ append-nil s

-- ---- taken back

-- a byte but `\` changes nothing after it
pub has_bad_escape-itself : (b : ℕ) (s : List ℕ) → b ≢ 92 → has_bad_escape (b ∷ s) ≡ has_bad_escape s
unfolding has_bad_escape
has_bad_escape-itself b [] other = ne_eqb b 92 other
has_bad_escape-itself b (c ∷ s) other = cond-false (b == 92) _ _ (ne_eqb b 92 other)

-- and stands for itself
pub unescaped-itself : (b : ℕ) (s : List ℕ) → b ≢ 92 → unescaped (b ∷ s) ≡ b ∷ unescaped s
unfolding unescaped
unescaped-itself b [] other = refl
unescaped-itself b (c ∷ s) other = cond-false (b == 92) _ _ (ne_eqb b 92 other)

-- a `\` and the byte after it
pub has_bad_escape-backslash : (c : ℕ) (s : List ℕ)
    → has_bad_escape (92 ∷ c ∷ s) ≡ (not (may_follow_backslash c) || has_bad_escape s)
unfolding has_bad_escape
has_bad_escape-backslash c s = refl

-- what they stand for
pub unescaped-backslash : (c : ℕ) (s : List ℕ) → unescaped (92 ∷ c ∷ s) ≡ escape_meaning c ∷ unescaped s
unfolding unescaped
unescaped-backslash c s = refl

-- a `\` that nothing follows
pub has_bad_escape-last : has_bad_escape (92 ∷ []) ≡ true
unfolding has_bad_escape
has_bad_escape-last = refl

-- no bytes have no bad escape
pub has_bad_escape-nil : has_bad_escape [] ≡ false
unfolding has_bad_escape
has_bad_escape-nil = refl

-- no bytes stand for none
pub unescaped-nil : unescaped [] ≡ []
unfolding unescaped
unescaped-nil = refl

-- a byte that is not `\`
not_backslash : (b : ℕ) → is_byte 92 b ≡ false → b ≢ 92
not_backslash b plain = eqb-false b 92 plain

-- a front without `\` stands as it is
pub has_bad_escape-skip : (s : List ℕ) (k : ℕ) → k ≤ length s → Nowhere (Passes (is_byte 92) s) 0 k
    → has_bad_escape s ≡ has_bad_escape (drop k s)
has_bad_escape-skip s zero within none = refl
has_bad_escape-skip [] (suc k) within none = absurd (omega arith)
has_bad_escape-skip (b ∷ s) (suc k) within none =
    has_bad_escape-itself b s (not_backslash b (Nowhere-head (is_byte 92) b s k none))
    ∙ has_bad_escape-skip s k (omega arith) (Nowhere-tail (is_byte 92) b s k none)

-- and stands for itself
pub unescaped-skip : (s : List ℕ) (k : ℕ) → k ≤ length s → Nowhere (Passes (is_byte 92) s) 0 k
    → unescaped s ≡ take k s ++ unescaped (drop k s)
unescaped-skip s zero within none = refl
unescaped-skip [] (suc k) within none = absurd (omega arith)
unescaped-skip (b ∷ s) (suc k) within none =
    unescaped-itself b s (not_backslash b (Nowhere-head (is_byte 92) b s k none))
    ∙ ap (λ t. b ∷ t) (unescaped-skip s k (omega arith) (Nowhere-tail (is_byte 92) b s k none))

-- what stands from a `\` on, with a byte after it
backslash_at : (s : List ℕ) (k : ℕ) → k + 1 < length s → slice_index s k ≡ 92
    → drop k s ≡ 92 ∷ slice_index s (k + 1) ∷ drop (k + 2) s
backslash_at s k within is =
    let next = drop_more s (k + 1) 0 within in
    let sum : k + 1 + 1 ≡ k + 2 = omega arith in
    drop_more s k 0 (omega arith) ∙ ap (λ b. b ∷ drop (k + 1) s) is ∙ ap (λ t. 92 ∷ t) next
    ∙ ap (λ n. 92 ∷ slice_index s (k + 1) ∷ drop n s) sum

-- a front without `\`, and a `\` with a byte after it
pub has_bad_escape-first : (s : List ℕ) (k : ℕ) → k + 1 < length s → slice_index s k ≡ 92
    → Nowhere (Passes (is_byte 92) s) 0 k
    → has_bad_escape s ≡ (not (may_follow_backslash (slice_index s (k + 1))) || has_bad_escape (drop (k + 2) s))
has_bad_escape-first s k within is none =
    has_bad_escape-skip s k (omega arith) none ∙ ap has_bad_escape (backslash_at s k within is)
    ∙ has_bad_escape-backslash (slice_index s (k + 1)) (drop (k + 2) s)

-- what they stand for
pub unescaped-first : (s : List ℕ) (k : ℕ) → k + 1 < length s → slice_index s k ≡ 92
    → Nowhere (Passes (is_byte 92) s) 0 k
    → unescaped s ≡ take k s ++ (escape_meaning (slice_index s (k + 1)) ∷ unescaped (drop (k + 2) s))
unescaped-first s k within is none =
    unescaped-skip s k (omega arith) none
    ∙ ap (λ t. take k s ++ t)
    (ap unescaped (backslash_at s k within is) ∙ unescaped-backslash (slice_index s (k + 1)) (drop (k + 2) s))

-- a `\` at the end
pub has_bad_escape-at_end : (s : List ℕ) (k : ℕ) → k + 1 ≡ length s → slice_index s k ≡ 92
    → Nowhere (Passes (is_byte 92) s) 0 k
    → has_bad_escape s ≡ true
has_bad_escape-at_end s k last is none =
    has_bad_escape-skip s k (omega arith) none
    ∙ ap has_bad_escape
    (drop_more s k 0 (omega arith) ∙ ap (λ b. b ∷ drop (k + 1) s) is
    ∙ ap (λ t. 92 ∷ t) (drop_all (k + 1) s (omega arith)))
    ∙ has_bad_escape-last

-- no `\` at all
pub has_bad_escape-none : (s : List ℕ) → Nowhere (Passes (is_byte 92) s) 0 (length s) → has_bad_escape s ≡ false
has_bad_escape-none s none =
    has_bad_escape-skip s (length s) (omega arith) none
    ∙ ap has_bad_escape (drop_all (length s) s (omega arith)) ∙ has_bad_escape-nil

-- then the text stands for itself
pub unescaped-none : (s : List ℕ) → Nowhere (Passes (is_byte 92) s) 0 (length s) → unescaped s ≡ s
unescaped-none s none =
    unescaped-skip s (length s) (omega arith) none
    ∙ ap (λ t. t ++ unescaped (drop (length s) s)) (take_all (length s) s (omega arith))
    ∙ ap (λ t. s ++ unescaped t) (drop_all (length s) s (omega arith)) ∙ ap (λ t. s ++ t) unescaped-nil ∙ append-nil s

-- the length of a front and one character
pub length-unescaped-first : (s : List ℕ) (k : ℕ) → k + 1 < length s → slice_index s k ≡ 92
    → Nowhere (Passes (is_byte 92) s) 0 k
    → length (unescaped s) ≡ k + 1 + length (unescaped (drop (k + 2) s))
length-unescaped-first s k within is none =
    let first = ap length (unescaped-first s k within is none) in
    let front = length-take-le k s (omega arith) in
    let whole = length-append (take k s) (escape_meaning (slice_index s (k + 1)) ∷ unescaped (drop (k + 2) s)) in
    omega (arith, first, front, whole)

-- one turn of a loop that counts the escapes
pub counts-step : (s after : List ℕ) (k : ℕ) → after ≡ drop (k + 2) s → k + 1 < length s → slice_index s k ≡ 92
    → Nowhere (Passes (is_byte 92) s) 0 k → may_follow_backslash (slice_index s (k + 1)) ≡ true
    → (has_bad_escape s ≡ has_bad_escape after) × (length (unescaped s) ≡ k + 1 + length (unescaped after))
    × (length s ≡ k + 2 + length after)
counts-step s after k rest within is none ends =
    let first = has_bad_escape-first s k within is none in
    let shorter = length-unescaped-first s k within is none in
    let left = length-drop (k + 2) s in
    rw rest (
      first ∙ ap (λ t. not t || has_bad_escape (drop (k + 2) s)) ends,
      shorter,
      omega (arith, left),
    )

-- a `\` in a text with no bad escape has one of three bytes after it
pub lawful-first : (s : List ℕ) (k : ℕ) → k < length s → slice_index s k ≡ 92 → Nowhere (Passes (is_byte 92) s) 0 k
    → has_bad_escape s ≡ false
    → (k + 1 < length s) × (may_follow_backslash (slice_index s (k + 1)) ≡ true)
    × (has_bad_escape (drop (k + 2) s) ≡ false)
lawful-first s k here is none lawful =
    elim (cases_eq (k + 1) (length s)) [
      | inl last ↦ cc (sym lawful ∙ has_bad_escape-at_end s k last is none)
      | inr more ↦
          let within : k + 1 < length s = omega arith in
          let parts = or_parts (not (may_follow_backslash (slice_index s (k + 1)))) _
          (sym (has_bad_escape-first s k within is none) ∙ lawful) in
          (within, not-false _ parts.0, parts.1)
    ]

-- what an escape stands for is ASCII
pub escape_meaning-ascii : (c : ℕ) → escape_meaning c < 128
escape_meaning-ascii c =
    cond_both (c == 110) 10 (if c == 114 then 13 else 92) (λ x. x < 128) (λ _. omega arith)
    (λ _. cond_both (c == 114) 13 92 (λ x. x < 128) (λ _. omega arith) (λ _. omega arith))

-- and so is what may stand after a `\`
pub may_follow_backslash-ascii : (c : ℕ) → may_follow_backslash c ≡ true → c < 128
may_follow_backslash-ascii c ends =
    elim (or_cases (c == 92 || c == 110) (c == 114) ends) [
      | inl early ↦
          elim (or_cases (c == 92) (c == 110) early) [
            | inl is ↦ omega (arith, eqb-true c 92 is)
            | inr is ↦ omega (arith, eqb-true c 110 is)
          ]
      | inr is ↦ omega (arith, eqb-true c 114 is)
    ]

-- one turn of a loop that takes a front and the escape after it back
pub unescaped-step : (name name₁ name₂ s after whole : List ℕ) (k : ℕ) → name ++ unescaped s ≡ whole
    → name₁ ≡ name ++ take k s → name₂ ≡ name₁ ++ escape_meaning (slice_index s (k + 1)) ∷ [] → after ≡ drop (k + 2) s
    → k + 1 < length s → slice_index s k ≡ 92 → Nowhere (Passes (is_byte 92) s) 0 k → name₂ ++ unescaped after ≡ whole
unescaped-step name name₁ name₂ s after whole k kept front character rest within is none =
    let first = unescaped-first s k within is none in
    rw (character, front, rest, ← kept, first) (simp append_assoc)

-- nothing alone is taken back to nothing
pub unescaped-not_nil : (s : List ℕ) → s ≢ [] → unescaped s ≢ []
unfolding unescaped
unescaped-not_nil [] some empty = some refl
unescaped-not_nil (b ∷ []) some empty = cc empty
unescaped-not_nil (b ∷ c ∷ s) some empty =
    elim (cases_eq b 92) [
      | inl is ↦ cc (sym (cond-true (b == 92) _ _ (eq-eqb b 92 is)) ∙ empty)
      | inr other ↦ cc (sym (cond-false (b == 92) _ _ (ne_eqb b 92 other)) ∙ empty)
    ]

-- ---- what a text spells

-- a text that spells a name has no bad escape
pub has_bad_escape-Spells : {text name : List ℕ} → Spells text name → has_bad_escape text ≡ false
has_bad_escape-Spells no_bytes = has_bad_escape-nil
has_bad_escape-Spells (backslash later) = has_bad_escape-backslash 92 _ ∙ has_bad_escape-Spells later
has_bad_escape-Spells (line_feed later) = has_bad_escape-backslash 110 _ ∙ has_bad_escape-Spells later
has_bad_escape-Spells (carriage_return later) = has_bad_escape-backslash 114 _ ∙ has_bad_escape-Spells later
has_bad_escape-Spells (itself other later) = has_bad_escape-itself _ _ other ∙ has_bad_escape-Spells later

-- and is taken back to that name, so that it spells no other
pub unescaped-Spells : {text name : List ℕ} → Spells text name → unescaped text ≡ name
unescaped-Spells no_bytes = unescaped-nil
unescaped-Spells (backslash later) = unescaped-backslash 92 _ ∙ ap (λ t. 92 ∷ t) (unescaped-Spells later)
unescaped-Spells (line_feed later) = unescaped-backslash 110 _ ∙ ap (λ t. 10 ∷ t) (unescaped-Spells later)
unescaped-Spells (carriage_return later) = unescaped-backslash 114 _ ∙ ap (λ t. 13 ∷ t) (unescaped-Spells later)
unescaped-Spells (itself {b = b} other later) = unescaped-itself b _ other ∙ ap (λ t. b ∷ t) (unescaped-Spells later)

-- what spells a name that is not empty is not empty
pub Spells-not_nil : {text name : List ℕ} → Spells text name → name ≢ [] → text ≢ []
Spells-not_nil no_bytes some empty = some refl
Spells-not_nil (backslash later) some empty = cc empty
Spells-not_nil (line_feed later) some empty = cc empty
Spells-not_nil (carriage_return later) some empty = cc empty
Spells-not_nil (itself other later) some empty = cc empty

-- in front of what spells a name, a `\` and a byte that may follow it spell what they stand for
Spells-escape_meaning : (c : ℕ) {text name : List ℕ} → may_follow_backslash c ≡ true → Spells text name
    → Spells (92 ∷ c ∷ text) (escape_meaning c ∷ name)
Spells-escape_meaning c ends later =
    elim (or_cases (c == 92 || c == 110) (c == 114) ends) [
      | inl early ↦
          elim (or_cases (c == 92) (c == 110) early) [
            | inl is ↦ rw (eqb-true c 92 is) (backslash later)
            | inr is ↦ rw (eqb-true c 110 is) (line_feed later)
          ]
      | inr is ↦ rw (eqb-true c 114 is) (carriage_return later)
    ]

-- a text with no bad escape spells what it is taken back to
pub Spells-unescaped : (text : List ℕ) → has_bad_escape text ≡ false → Spells text (unescaped text)
Spells-unescaped [] lawful = rw unescaped-nil no_bytes
Spells-unescaped (b ∷ []) lawful =
    elim (cases_eq b 92) [
      | inl is ↦ cc (sym lawful ∙ ap (λ x. has_bad_escape (x ∷ [])) is ∙ has_bad_escape-last)
      | inr other ↦ rw (unescaped-itself b [] other, unescaped-nil) (itself other no_bytes)
    ]
Spells-unescaped (b ∷ c ∷ text) lawful =
    elim (cases_eq b 92) [
      | inl is ↦
          let parts = or_parts (not (may_follow_backslash c)) (has_bad_escape text)
          (sym (has_bad_escape-backslash c text) ∙ ap (λ x. has_bad_escape (x ∷ c ∷ text)) (sym is) ∙ lawful) in
          rw (is, unescaped-backslash c text)
          (Spells-escape_meaning c (not-false _ parts.0) (Spells-unescaped text parts.1))
      | inr other ↦
          rw (unescaped-itself b (c ∷ text) other)
          (itself other (Spells-unescaped (c ∷ text) (sym (has_bad_escape-itself b (c ∷ text) other) ∙ lawful)))
    ]
