-- `pieces_of` by the first piece, that it gives the pieces of a text, and that nothing else does.
use Rattle.std.proofs.Common.{◌≡◌, ◌≢◌, ℕ, zero, suc, ◌+◌, ◌<◌, ◌≤◌, false, ◌==◌, min, List, [], ◌∷◌, ◌++◌, length, take, drop, slice_index, Option, Some, None, refl, sym, ap, subst, ◌∙◌, add-one, arith, inl, inr, append_assoc, append-nil, length-append}
use Rattle.std.specs.Option.{unwrap_or}
use Rattle.std.specs.Prelude.{All, slice_index_or}
use Rattle.std.proofs.lemmas.Bool.{cases_eq, cond-false, cond-true, eq-eqb, eqb-true, ne_eqb}
use Rattle.std.proofs.lemmas.List.{drop_all, drop-drop, length-drop}
use Rattle.std.proofs.lemmas.List.Elements.{All-cons, All-head, All-nil, All-tail}
use Rattle.memchr.specs.Find.{IsFirstByte, Nowhere, Passes, is_byte}
use Rattle.b3_lines.specs.Lines.{ArePieces, EndsUnterminated, HasNo, pieces_of, prepended, terminated}
use Rattle.b3_lines.proofs.Searches.{Nowhere-head, Nowhere-tail}

-- ---- by the first byte, where `d` is the delimiter

pub pieces_of-nil : (d : ℕ) → pieces_of d [] ≡ []
unfolding pieces_of
pieces_of-nil d = refl

pub pieces_of-end : (d : ℕ) (text : List ℕ) → pieces_of d (d ∷ text) ≡ [] ∷ pieces_of d text
unfolding pieces_of
pieces_of-end d text = cond-true (d == d) _ _ (eq-eqb d d refl)

pub pieces_of-cons : (d b : ℕ) (text : List ℕ) → (b == d) ≡ false
    → pieces_of d (b ∷ text) ≡ prepended b (pieces_of d text)
unfolding pieces_of
pieces_of-cons d b text other = cond-false (b == d) _ _ other

-- ---- by the first piece

-- no byte of the first piece is the delimiter, which stands after it where it is not the whole text
pieces_of-first_suc : (d : ℕ) (text : List ℕ) (n : ℕ) → 0 < length text → n ≤ length text
    → Nowhere (Passes (is_byte d) text) 0 n → (n < length text → slice_index text n ≡ d)
    → pieces_of d text ≡ take n text ∷ pieces_of d (drop (suc n) text)
pieces_of-first_suc d [] n filled within none end = absurd (omega arith)
pieces_of-first_suc d (b ∷ text) zero filled within none end =
    let is : b ≡ d = end filled in
    ap (λ x. pieces_of d (x ∷ text)) is ∙ pieces_of-end d text
pieces_of-first_suc d (b ∷ []) (suc zero) filled within none end =
    pieces_of-cons d b [] (Nowhere-head (is_byte d) b [] 0 none) ∙ ap (prepended b) (pieces_of-nil d)
    ∙ ap (λ pieces. (b ∷ []) ∷ pieces) (sym (pieces_of-nil d))
pieces_of-first_suc d (b ∷ []) (suc (suc n)) filled within none end = absurd (omega arith)
pieces_of-first_suc d (b ∷ c ∷ text) (suc n) filled within none end =
    let none_behind = Nowhere-tail (is_byte d) b (c ∷ text) n none in
    let first = pieces_of-first_suc d (c ∷ text) n (omega arith) (omega arith) none_behind
    (λ shorter. end (omega arith)) in
    pieces_of-cons d b (c ∷ text) (Nowhere-head (is_byte d) b (c ∷ text) n none) ∙ ap (prepended b) first

pub pieces_of-first : (d : ℕ) (text : List ℕ) (n : ℕ) → 0 < length text → n ≤ length text
    → Nowhere (Passes (is_byte d) text) 0 n → (n < length text → slice_index text n ≡ d)
    → pieces_of d text ≡ take n text ∷ pieces_of d (drop (n + 1) text)
pieces_of-first d text n filled within none end = rw add-one (pieces_of-first_suc d text n filled within none end)

-- the answer of a search for the first delimiter
pub pieces_of-found : (d : ℕ) (text : List ℕ) (r : Option ℕ) → 0 < length text → IsFirstByte (is_byte d) text r
    → (n : ℕ) → n ≡ unwrap_or r (length text) → pieces_of d text ≡ take n text ∷ pieces_of d (drop (n + 1) text)
pieces_of-found d text None filled none n is =
    pieces_of-first d text n filled (omega arith) (λ k low high. none k low (omega arith))
    (λ shorter. absurd (omega arith))
pieces_of-found d text (Some at) filled found n is =
    rw is (pieces_of-first d text at filled (omega (arith, found.0.high)) found.0.before
    (λ _. eqb-true (slice_index text at) d found.1))

-- what stands after the first piece, and after its delimiter if there is one
pub drop-behind : (text rest : List ℕ) (n k : ℕ) → rest ≡ drop n text → k ≡ min (length rest) 1
    → drop k rest ≡ drop (n + 1) text
drop-behind text [] n k is less =
    let none : 0 ≡ length (drop n text) = ap (λ (xs : List ℕ). length xs) is in
    drop_all k [] (omega arith) ∙ sym (drop_all (n + 1) text (omega (arith, none, length-drop n text)))
drop-behind text (b ∷ rest) n k is less =
    let one : k ≡ 1 = omega arith in
    ap (λ (j : ℕ). drop j (b ∷ rest)) one ∙ ap (drop 1) is ∙ drop-drop 1 n text

-- ---- pieces without the delimiter

HasNo-cons_at : (d b : ℕ) (s : List ℕ) → b ≢ d → HasNo d s → (k : ℕ) → k < length (b ∷ s)
    → slice_index_or (b ∷ s) k d ≡ d → ⊥
HasNo-cons_at d b s other none zero below is = other is
HasNo-cons_at d b s other none (suc k) below is = none (k, omega arith, is)

HasNo-nil : (d : ℕ) → HasNo d []
HasNo-nil d found = let below = found.1 in absurd (omega arith)

HasNo-cons : (d b : ℕ) (s : List ℕ) → b ≢ d → HasNo d s → HasNo d (b ∷ s)
HasNo-cons d b s other none found = HasNo-cons_at d b s other none found.0 found.1 found.2

HasNo-head : (d b : ℕ) (s : List ℕ) → HasNo d (b ∷ s) → b ≢ d
HasNo-head d b s none is = none (0, omega arith, is)

HasNo-tail : (d b : ℕ) (s : List ℕ) → HasNo d (b ∷ s) → HasNo d s
HasNo-tail d b s none found = let below = found.1 in none (suc found.0, omega arith, found.2)

-- ---- a fact on each piece of two parts

All-front : (P : List ℕ → Type 0) (xs ys : List (List ℕ)) → All P (xs ++ ys) → All P xs
All-front P [] ys all = All-nil P
All-front P (x ∷ xs) ys all =
    All-cons P x xs (All-head P x (xs ++ ys) all) (All-front P xs ys (All-tail P x (xs ++ ys) all))

All-behind : (P : List ℕ → Type 0) (xs ys : List (List ℕ)) → All P (xs ++ ys) → All P ys
All-behind P [] ys all = all
All-behind P (x ∷ xs) ys all = All-behind P xs ys (All-tail P x (xs ++ ys) all)

-- ---- what is the pieces of a text is `pieces_of` it

-- a piece in front of a delimiter
pub pieces_of-piece : (d : ℕ) (piece text : List ℕ) → HasNo d piece
    → pieces_of d (piece ++ d ∷ text) ≡ piece ∷ pieces_of d text
pieces_of-piece d [] text none = pieces_of-end d text
pieces_of-piece d (b ∷ piece) text none =
    pieces_of-cons d b (piece ++ d ∷ text) (ne_eqb b d (HasNo-head d b piece none))
    ∙ ap (prepended b) (pieces_of-piece d piece text (HasNo-tail d b piece none))

-- a last piece without one
pieces_of-last : (d b : ℕ) (piece : List ℕ) → HasNo d (b ∷ piece) → pieces_of d (b ∷ piece) ≡ (b ∷ piece) ∷ []
pieces_of-last d b [] none =
    pieces_of-cons d b [] (ne_eqb b d (HasNo-head d b [] none)) ∙ ap (prepended b) (pieces_of-nil d)
pieces_of-last d b (c ∷ piece) none =
    pieces_of-cons d b (c ∷ piece) (ne_eqb b d (HasNo-head d b (c ∷ piece) none))
    ∙ ap (prepended b) (pieces_of-last d c piece (HasNo-tail d b (c ∷ piece) none))

-- pieces that are ended, in front of a text
pieces_of-terminated : (d : ℕ) (pieces : List (List ℕ)) (text : List ℕ) → All (HasNo d) pieces
    → pieces_of d (terminated d pieces ++ text) ≡ pieces ++ pieces_of d text
pieces_of-terminated d [] text none = refl
pieces_of-terminated d (piece ∷ pieces) text none =
    let shape : terminated d (piece ∷ pieces) ++ text ≡ piece ++ d
    ∷ (terminated d pieces ++ text) = simp append_assoc in
    ap (pieces_of d) shape
    ∙ pieces_of-piece d piece (terminated d pieces ++ text) (All-head (HasNo d) piece pieces none)
    ∙ ap (λ rest. piece ∷ rest) (pieces_of-terminated d pieces text (All-tail (HasNo d) piece pieces none))

-- a last piece that nothing ends
pieces_of-open : (d : ℕ) (text : List ℕ) (pieces : List (List ℕ)) → All (HasNo d) pieces
    → (before : List (List ℕ)) (last : List ℕ)
    → pieces ≡ before ++ last ∷ [] → last ≢ [] → text ≡ terminated d before ++ last → pieces ≡ pieces_of d text
pieces_of-open d text pieces none before [] pieces_are is_some text_is = absurd (is_some refl)
pieces_of-open d text pieces none before (b ∷ last) pieces_are is_some text_is =
    let all = subst (All (HasNo d)) pieces_are none in
    let front = All-front (HasNo d) before ((b ∷ last) ∷ []) all in
    let end = All-head (HasNo d) (b ∷ last) [] (All-behind (HasNo d) before ((b ∷ last) ∷ []) all) in
    pieces_are ∙ sym (ap (pieces_of d) text_is ∙ pieces_of-terminated d before (b ∷ last) front
    ∙ ap (λ rest. before ++ rest) (pieces_of-last d b last end))

-- nothing else is the pieces of a text
pub pieces_of-only : (d : ℕ) (text : List ℕ) (pieces : List (List ℕ)) → ArePieces d text pieces
    → pieces ≡ pieces_of d text
pieces_of-only d text pieces are = elim are.give [
  | inl text_is ↦
      sym (ap (pieces_of d) (text_is ∙ sym (append-nil (terminated d pieces)))
      ∙ pieces_of-terminated d pieces [] are.without
      ∙ ap (λ rest. pieces ++ rest) (pieces_of-nil d) ∙ append-nil pieces)
  | inr unended ↦
      pieces_of-open d text pieces are.without unended.before unended.last unended.pieces_are unended.is_some
      unended.text_is
]

-- ---- and `pieces_of` a text is its pieces

ArePieces-nil : (d : ℕ) → ArePieces d [] []
ArePieces-nil d = record { without = All-nil (HasNo d); give = inl refl }

-- a delimiter in front
ArePieces-end : (d : ℕ) (text : List ℕ) (pieces : List (List ℕ)) → ArePieces d text pieces
    → ArePieces d (d ∷ text) ([] ∷ pieces)
ArePieces-end d text pieces are = record {
  without = All-cons (HasNo d) [] pieces (HasNo-nil d) are.without;
  give = elim are.give [
    | inl text_is ↦ inl (ap (λ t. d ∷ t) text_is)
    | inr unended ↦ inr (record {
      before = [] ∷ unended.before;
      last = unended.last;
      pieces_are = ap (λ rest. [] ∷ rest) unended.pieces_are;
      is_some = unended.is_some;
      text_is = ap (λ t. d ∷ t) unended.text_is;
    })
  ];
}

-- another byte in front of a first piece that nothing ends
EndsUnterminated-cons : (d b : ℕ) (text piece : List ℕ) (pieces before : List (List ℕ)) (last : List ℕ)
    → piece ∷ pieces ≡ before ++ last ∷ [] → last ≢ [] → text ≡ terminated d before ++ last
    → EndsUnterminated d (b ∷ text) ((b ∷ piece) ∷ pieces)
EndsUnterminated-cons d b text piece pieces [] last pieces_are is_some text_is =
    let piece_is : piece ≡ last = cc in
    let none : pieces ≡ [] = cc in
    record {
      before = [];
      last = b ∷ piece;
      pieces_are = ap (λ rest. (b ∷ piece) ∷ rest) none;
      is_some = λ is. cc is;
      text_is = ap (λ t. b ∷ t) (text_is ∙ sym piece_is);
    }
EndsUnterminated-cons d b text piece pieces (first ∷ before) last pieces_are is_some text_is =
    let piece_is : piece ≡ first = cc in
    let rest_is : pieces ≡ before ++ last ∷ [] = cc in
    record {
      before = (b ∷ piece) ∷ before;
      last = last;
      pieces_are = ap (λ rest. (b ∷ piece) ∷ rest) rest_is;
      is_some = is_some;
      text_is = ap (λ t. b ∷ t) (text_is ∙ ap (λ p. terminated d (p ∷ before) ++ last) (sym piece_is));
    }

-- another byte in front
ArePieces-cons : (d b : ℕ) (text : List ℕ) (pieces : List (List ℕ)) → b ≢ d → ArePieces d text pieces
    → ArePieces d (b ∷ text) (prepended b pieces)
ArePieces-cons d b text [] other are =
    let none : text ≡ [] = elim are.give [
      | inl text_is ↦ text_is
      | inr unended ↦ absurd
          (omega (arith, ap length unended.pieces_are, length-append unended.before (unended.last ∷ [])))
    ] in
    record {
      without = All-cons (HasNo d) (b ∷ []) [] (HasNo-cons d b [] other (HasNo-nil d)) (All-nil (HasNo d));
      give = inr (record {
        before = [];
        last = b ∷ [];
        pieces_are = refl;
        is_some = λ is. cc is;
        text_is = ap (λ t. b ∷ t) none;
      });
    }
ArePieces-cons d b text (piece ∷ pieces) other are = record {
  without = All-cons (HasNo d) (b ∷ piece) pieces
      (HasNo-cons d b piece other (All-head (HasNo d) piece pieces are.without))
      (All-tail (HasNo d) piece pieces are.without);
  give = elim are.give [
    | inl text_is ↦ inl (ap (λ t. b ∷ t) text_is)
    | inr unended ↦ inr
        (EndsUnterminated-cons d b text piece pieces unended.before unended.last unended.pieces_are unended.is_some
        unended.text_is)
  ];
}

pub ArePieces-pieces_of : (d : ℕ) (text : List ℕ) → ArePieces d text (pieces_of d text)
ArePieces-pieces_of d [] = rw (pieces_of-nil d) (ArePieces-nil d)
ArePieces-pieces_of d (b ∷ text) = elim (cases_eq b d) [
  | inl is ↦
      rw is (rw (pieces_of-end d text) (ArePieces-end d text (pieces_of d text) (ArePieces-pieces_of d text)))
  | inr other ↦
      rw (pieces_of-cons d b text (ne_eqb b d other))
      (ArePieces-cons d b text (pieces_of d text) other (ArePieces-pieces_of d text))
]

-- ---- how many pieces there are

length-prepended : (b : ℕ) (pieces : List (List ℕ)) → length (prepended b pieces) ≤ length pieces + 1
length-prepended b [] = omega arith
length-prepended b (piece ∷ pieces) = omega arith

pub length-pieces_of : (d : ℕ) (text : List ℕ) → length (pieces_of d text) ≤ length text
length-pieces_of d [] = rw (pieces_of-nil d) (omega arith)
length-pieces_of d (b ∷ text) = elim (cases_eq b d) [
  | inl is ↦
      let rest = length-pieces_of d text in
      omega (arith, ap (λ x. length (pieces_of d (x ∷ text))) is, ap length (pieces_of-end d text))
  | inr other ↦
      let rest = length-pieces_of d text in
      omega (arith, ap length (pieces_of-cons d b text (ne_eqb b d other)), length-prepended b (pieces_of d text))
]
