-- The places of lines: line by line, where the text is not yet read, and what stands at them.
use Rattle.std.proofs.Common.{◌≡◌, ℕ, suc, ◌+◌, ◌-◌, ◌≤◌, ◌<◌, List, [], ◌∷◌, length, take, drop, map, refl, sym, ap, subst, ◌∙◌, arith, inl, inr}
use Rattle.std.specs.Prelude.{All}
use Rattle.std.proofs.lemmas.List.{drop_all, drop-drop, length-drop, length-take-le}
use Rattle.std.proofs.lemmas.Bool.{cases_eq, ne_eqb}
use Rattle.std.proofs.lemmas.List.Elements.{All-cons, All-head, All-nil, All-tail}
use Rattle.b3_lines.specs.Lines.{IsWithin, line_at, lines_of, prepended, ranges_from}
use Rattle.b3_lines.proofs.Pieces.{pieces_of-cons, pieces_of-end, pieces_of-nil}

pub ranges_from-nil : (start : ℕ) → ranges_from start [] ≡ []
unfolding ranges_from
ranges_from-nil start = refl

pub ranges_from-cons : (start : ℕ) (line : List ℕ) (lines : List (List ℕ))
    → ranges_from start (line ∷ lines) ≡ (start, start + length line) ∷ ranges_from (start + length line + 1) lines
unfolding ranges_from
ranges_from-cons start line lines = refl

-- ---- what is left of a text

-- none where nothing is left
pub ranges_from-at_end : (text : List ℕ) (start : ℕ) → length text ≤ start
    → ranges_from start (lines_of (drop start text)) ≡ []
ranges_from-at_end text start past =
    ap (λ t. ranges_from start (lines_of t)) (drop_all start text past)
    ∙ ap (ranges_from start) (pieces_of-nil 10) ∙ ranges_from-nil start

-- the place of the first line, and those of the lines after it
pub ranges_from-first : (text : List ℕ) (start n end next : ℕ) → end ≡ start + n → next ≡ end + 1
    → n ≤ length (drop start text)
    → lines_of (drop start text) ≡ take n (drop start text) ∷ lines_of (drop (n + 1) (drop start text))
    → ranges_from start (lines_of (drop start text)) ≡ (start, end) ∷ ranges_from next (lines_of (drop next text))
ranges_from-first text start n end next ends nexts within first =
    let rest = drop start text in
    let line : length (take n rest) ≡ n = length-take-le n rest within in
    let end_is : start + length (take n rest) ≡ end = omega arith in
    let next_is : start + length (take n rest) + 1 ≡ next = omega arith in
    let place_is : start + (n + 1) ≡ next = omega arith in
    let behind : drop (n + 1) rest ≡ drop next text = drop-drop (n + 1) start text ∙ ap (λ k. drop k text) place_is in
    ap (ranges_from start) first
    ∙ ranges_from-cons start (take n rest) (lines_of (drop (n + 1) rest))
    ∙ ap (λ e. (start, e) ∷ ranges_from (start + length (take n rest) + 1) (lines_of (drop (n + 1) rest))) end_is
    ∙ ap (λ k. (start, end) ∷ ranges_from k (lines_of (drop (n + 1) rest))) next_is
    ∙ ap (λ t. (start, end) ∷ ranges_from next (lines_of t)) behind

-- ---- what stands at the places

-- lines stand at their places from `start` on, and these lie in the text
abbrev Stand : List ℕ → ℕ → List (List ℕ) → Type 0
Stand text start lines =
    (map (line_at text) (ranges_from start lines) ≡ lines) × All (IsWithin text) (ranges_from start lines)

Stand-nil : (text : List ℕ) (start : ℕ) → Stand text start []
Stand-nil text start = rw (ranges_from-nil start) (refl, All-nil (IsWithin text))

Stand-cons : (text : List ℕ) (start : ℕ) (line : List ℕ) (lines : List (List ℕ)) → start + length line ≤ length text
    → take (length line) (drop start text) ≡ line → Stand text (start + length line + 1) lines
    → Stand text start (line ∷ lines)
Stand-cons text start line lines within here behind =
    let long : start + length line - start ≡ length line = omega arith in
    let rest = map (line_at text) (ranges_from (start + length line + 1) lines) in
    let place : ℕ × ℕ = (start, start + length line) in
    rw (ranges_from-cons start line lines) (
      ap (λ n. take n (drop start text) ∷ rest) long ∙ ap (λ l. l ∷ rest) here ∙ ap (λ ls. line ∷ ls) behind.0,
      All-cons (IsWithin text) place (ranges_from (start + length line + 1) lines) (omega arith, within) behind.1,
    )

-- the first line and those after it
record HasFirst (text : List ℕ) (start : ℕ) (line : List ℕ) (lines : List (List ℕ)) : Type 0 where
  within : start + length line ≤ length text
  here : take (length line) (drop start text) ≡ line
  behind : Stand text (start + length line + 1) lines

HasFirst-from_Stand : (text : List ℕ) (start : ℕ) (line : List ℕ) (lines : List (List ℕ))
    → Stand text start (line ∷ lines)
    → HasFirst text start line lines
HasFirst-from_Stand text start line lines stand =
    let long : start + length line - start ≡ length line = omega arith in
    let rest = ranges_from (start + length line + 1) lines in
    let place : ℕ × ℕ = (start, start + length line) in
    let stands : line_at text place ∷ map (line_at text) rest ≡ line ∷ lines =
    sym (ap (map (line_at text)) (ranges_from-cons start line lines)) ∙ stand.0 in
    let within = subst (All (IsWithin text)) (ranges_from-cons start line lines) stand.1 in
    let front : line_at text place ≡ line = cc in
    let behind : map (line_at text) rest ≡ lines = cc in
    record {
      within = (All-head (IsWithin text) place rest within).1;
      here = ap (λ n. take n (drop start text)) (sym long) ∙ front;
      behind = (behind, All-tail (IsWithin text) place rest within);
    }

-- a byte that is no line feed lengthens the first line, or is one
Stand-prepended : (text rest : List ℕ) (start b : ℕ) (lines : List (List ℕ)) → start < length text
    → drop start text ≡ b ∷ rest → drop (start + 1) text ≡ rest → Stand text (start + 1) lines
    → Stand text start (prepended b lines)
Stand-prepended text rest start b [] below here behind stand =
    Stand-cons text start (b ∷ []) [] (omega arith) (ap (take 1) here) (Stand-nil text (start + 1 + 1))
Stand-prepended text rest start b (line ∷ lines) below here behind stand =
    let first = HasFirst-from_Stand text (start + 1) line lines stand in
    let next : start + 1 + length line + 1 ≡ start + length (b ∷ line) + 1 = omega arith in
    Stand-cons text start (b ∷ line) lines (omega (arith, first.within))
    (ap (take (suc (length line))) here
    ∙ ap (λ t. b ∷ take (length line) t) (sym behind) ∙ ap (λ l. b ∷ l) first.here)
    (subst (λ k. Stand text k lines) next first.behind)

pub Stand-lines_of : (text rest : List ℕ) (start : ℕ) → drop start text ≡ rest → Stand text start (lines_of rest)
Stand-lines_of text [] start here = rw (pieces_of-nil 10) (Stand-nil text start)
Stand-lines_of text (b ∷ rest) start here =
    let below : start < length text = omega (arith, ap length here, length-drop start text) in
    let behind = sym (drop-drop 1 start text) ∙ ap (drop 1) here in
    let stand = Stand-lines_of text rest (start + 1) behind in
    elim (cases_eq b 10) [
      | inl is ↦
          let feed = ap (λ x. lines_of (x ∷ rest)) is ∙ pieces_of-end 10 rest in
          let next : start + 1 ≡ start + 0 + 1 = omega arith in
          subst (Stand text start) (sym feed)
          (Stand-cons text start [] (lines_of rest) (omega arith) refl
          (subst (λ k. Stand text k (lines_of rest)) next stand))
      | inr other ↦
          subst (Stand text start) (sym (pieces_of-cons 10 b rest (ne_eqb b 10 other)))
          (Stand-prepended text rest start b (lines_of rest) below here behind stand)
    ]

-- ---- how many places there are

pub length-ranges_from : (start : ℕ) (lines : List (List ℕ)) → length (ranges_from start lines) ≡ length lines
length-ranges_from start [] = ap length (ranges_from-nil start)
length-ranges_from start (line ∷ lines) =
    ap length (ranges_from-cons start line lines)
    ∙ ap suc (length-ranges_from (start + length line + 1) lines)
