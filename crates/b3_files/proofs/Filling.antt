-- Buffers that are filled read by read.
use Rattle.std.proofs.Common.{◌≡◌, ℕ, ◌+◌, ◌≤◌, List, [], ◌++◌, Option, None, Some, IfSome, length, take, drop, sym, ◌∙◌, ap, append_assoc, length-append, length-drop, arith}
use Rattle.std.proofs.Math.Seq.{take-append_seam}
use Rattle.std.proofs.lemmas.List.{drop_all, drop-drop, drop-take, length-take-le, take-append-drop, take-take, take_all}
use Rattle.b3_io.specs.Contents.{Gives}
use Rattle.b3_io.proofs.ReadLemmas.{take-read}

-- a front and what stands behind it
take-front : (front back : List ℕ) (n : ℕ) → length front ≡ n → take n (front ++ back) ≡ front
take-front front back n len = ap (λ k. take k (front ++ back)) (sym len) ∙ take-append_seam front back

-- what is filled stays, whatever is written behind it
pub take-kept : (buffer back : List ℕ) (filled : ℕ) → filled ≤ length buffer
    → take filled (take filled buffer ++ back) ≡ take filled buffer
take-kept buffer back filled within = take-front (take filled buffer) back filled (length-take-le filled buffer within)

-- the first bytes of a content, and what a read gave behind them
pub filled_more : (content buffer new rest : List ℕ) (offset filled n : ℕ) → filled ≤ length buffer → n ≤ length new
    → take filled buffer ≡ take filled (drop offset content)
    → Gives (drop (offset + filled) content) (take n new) (drop (offset + filled + n) content)
    → take (filled + n) (take filled buffer ++ (new ++ rest)) ≡ take (filled + n) (drop offset content)
filled_more content buffer new rest offset filled n within fits so_far gives =
    let front = take filled buffer in
    let given = take n new in
    let behind = drop (offset + filled + n) content in
    let parts : drop offset content ≡ (front ++ given) ++ behind =
    sym (take-append-drop filled (drop offset content))
    ∙ ap (λ bytes. bytes ++ drop filled (drop offset content)) (sym so_far)
    ∙ ap (λ bytes. front ++ bytes) (drop-drop filled offset content ∙ gives.parts)
    ∙ sym (append_assoc front given behind) in
    let size : length (front ++ given) ≡ filled + n =
    omega (arith, length-append front given, length-take-le filled buffer within, length-take-le n new fits) in
    take-read buffer new rest filled n within fits
    ∙ sym (take-front (front ++ given) behind (filled + n) size)
    ∙ ap (take (filled + n)) (sym parts)

-- the content ends behind what is filled
pub filled_all : (content bytes : List ℕ) (offset filled n : ℕ) → filled ≤ n
    → bytes ≡ take filled (drop offset content)
    → drop (offset + filled) content ≡ []
    → bytes ≡ take n (drop offset content)
filled_all content bytes offset filled n within so_far ended =
    let none : length (drop filled (drop offset content)) ≡ 0 = ap (λ (xs : List ℕ). length xs)
    (drop-drop filled offset content ∙ ended) in
    let short : length (drop offset content) ≤ filled = omega (arith, none, length-drop filled (drop offset content)) in
    so_far ∙ take_all filled (drop offset content) short
    ∙ sym (take_all n (drop offset content) (omega (arith, short, within)))

-- it ends there, as it tells
pub filled_to_end : (content bytes : List ℕ) (offset filled n end : ℕ) → filled ≤ n
    → bytes ≡ take filled (drop offset content) → end ≡ length content → end ≡ offset + filled
    → bytes ≡ take n (drop offset content)
filled_to_end content bytes offset filled n end within so_far told is =
    filled_all content bytes offset filled n within so_far (drop_all (offset + filled) content (omega (arith, told, is)))

-- two contents of which the same is left: what is left after so many bytes more
pub later_same : (x y : List ℕ) (a b n : ℕ) → drop a x ≡ drop b y → drop (a + n) x ≡ drop (b + n) y
later_same x y a b n same = sym (drop-drop n a x) ∙ ap (drop n) same ∙ drop-drop n b y

-- what a read gave of the one is given of the other
pub gives_same : (x y bytes : List ℕ) (a b n : ℕ) → drop a x ≡ drop b y → Gives (drop a x) bytes (drop (a + n) x)
    → Gives (drop b y) bytes (drop (b + n) y)
gives_same x y bytes a b n same gives = record {
  parts = sym same ∙ gives.parts ∙ ap (λ rest. bytes ++ rest) (later_same x y a b n same);
  end = λ none. sym same ∙ gives.end none;
}

-- the first bytes of a content, and those behind them
take-behind : (content : List ℕ) (a b : ℕ) → take a content ++ take b (drop a content) ≡ take (a + b) content
take-behind content a b =
    let whole = take (a + b) content in
    let within : a ≤ a + b = omega arith in
    ap (λ bytes. bytes ++ take b (drop a content)) (sym (take-take a (a + b) content within))
    ∙ ap (λ bytes. take a whole ++ bytes) (sym (drop-take a b content))
    ∙ take-append-drop a whole

-- more bytes of a content, behind the first ones
pub taken_more : (content so_far given : List ℕ) (offset n next : ℕ) → so_far ≡ take offset content
    → given ≡ take n (drop offset content) → next ≡ offset + n
    → so_far ++ given ≡ take next content
taken_more content so_far given offset n next is more later =
    ap (λ bytes. bytes ++ given) is ∙ ap (λ bytes. take offset content ++ bytes) more ∙ take-behind content offset n
    ∙ ap (λ k. take k content) (sym later)

-- nothing was answered
pub none_given : (answer : Option ℕ) (P : ℕ → Type 0) → answer ≡ None → IfSome answer P
none_given answer P is = rw is tt

-- what holds of each number holds of the one that was answered
pub of_each : (answer : Option ℕ) (P : ℕ → Type 0) → ((n : ℕ) → P n) → IfSome answer P
of_each None P each = tt
of_each (Some n) P each = each n
