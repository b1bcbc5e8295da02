-- The nodes of bytes that an input may have: in memory they are its own, siblings join, and the whole has the root.
use Rattle.std.proofs.Common.{inl, inr, ◌⊎◌, ◌≡◌, ℕ, zero, suc, ◌+◌, ◌-◌, ◌*◌, ◌<◌, ◌≤◌, min, Bool, true, false, List, [], ◌∷◌, ◌++◌, length, take, drop, Option, Some, None, arith, refl, sym, subst, ap, ◌∙◌, length-append}
use Rattle.std.proofs.lemmas.List.{length-drop, length-take-le, append-nil, take-append-drop, drop-take, take_all}
use Rattle.std.proofs.lemmas.Bool.{cases_lt, false≢true}
use Rattle.std.proofs.Math.Seq.{take-append_seam, drop-append_seam}
use Rattle.b3_core.specs.Nodes.{chaining}
use Rattle.b3_core.specs.Subtrees.{AreChildren}
use Rattle.b3_core.specs.Tree.{IsLeft, chunks, parent_node, top}
use Rattle.b3_core.specs.declared.modes.Mode.{Mode}
use Rattle.b3_core.specs.declared.nodes.Node.{Node}
use Rattle.b3_core.specs.declared.spans.Span.{Span}
use Rattle.b3_core.proofs.Siblings.{Kids-from_AreChildren}
use Rattle.b3_board.specs.Spans.{IsNodeOf, IsRootOf, KnownInput, MayBe, in_memory, part, top_of}
use Rattle.b3_board.proofs.SpanBytes.{top-halves, top-part}

some_or : List ℕ → Option (List ℕ) → List ℕ
some_or d None = d
some_or d (Some xs) = xs

pub some_is : (xs ys : List ℕ) → Some xs ≡ Some ys → xs ≡ ys
unfolding some_or
some_is xs ys e = ap (λ (o : Option (List ℕ)). some_or xs o) e

-- an input in memory has its own bytes, and no others
pub MayBe-in_memory : (bytes : List ℕ) → MayBe (in_memory bytes) bytes
MayBe-in_memory bytes = record { len_is = refl; told_is = λ all e. some_is bytes all e }

-- the node of a span of an input in memory is the top of its own bytes
pub IsNodeOf-in_memory : (input : List ℕ) (mode : Mode) (first : ℕ) (span : Span) (node : Node)
    → IsNodeOf (in_memory input) mode first span node → node ≡ top_of input mode first span
IsNodeOf-in_memory input mode first span node is =
    is.is_top ∙ ap (λ (b : List ℕ). top_of b mode first span) (is.may_be.told_is input refl)

-- bytes of two inputs, the first up to place k and the second from there on
spliced : ℕ → List ℕ → List ℕ → List ℕ
spliced k xs ys = take k xs ++ drop k ys

take-spliced : (k : ℕ) (xs ys : List ℕ) → k ≤ length xs → take k (spliced k xs ys) ≡ take k xs
unfolding spliced
take-spliced k xs ys short =
    ap (λ (n : ℕ). take n (take k xs ++ drop k ys)) (sym (length-take-le k xs short))
    ∙ take-append_seam (take k xs) (drop k ys)

drop-spliced : (k : ℕ) (xs ys : List ℕ) → k ≤ length xs → drop k (spliced k xs ys) ≡ drop k ys
unfolding spliced
drop-spliced k xs ys short =
    ap (λ (n : ℕ). drop n (take k xs ++ drop k ys)) (sym (length-take-le k xs short))
    ∙ drop-append_seam (take k xs) (drop k ys)

MayBe-spliced : (input : KnownInput) (k : ℕ) (xs ys : List ℕ) → k ≤ input.len → MayBe input xs → MayBe input ys
    → MayBe input (spliced k xs ys)
unfolding spliced
MayBe-spliced input k xs ys short x y = record {
  len_is = omega (
    arith,
    length-append (take k xs) (drop k ys),
    length-take-le k xs (omega (arith, x.len_is)),
    length-drop k ys,
    y.len_is,
  );
  told_is = λ all told.
      (λ i. take k (x.told_is all told i) ++ drop k (y.told_is all told i)) ∙ take-append-drop k all;
}

-- the front part ends at k, the back part begins there
front_part : (k a l : ℕ) (xs ys : List ℕ) → 1024 * a + 1024 * l ≡ k → take k xs ≡ take k ys
    → part xs a l ≡ part ys a l
front_part k a l xs ys is same =
    sym (drop-take (1024 * a) (1024 * l) xs)
    ∙ ap (λ (n : ℕ). drop (1024 * a) (take n xs)) is
    ∙ ap (drop (1024 * a)) same
    ∙ ap (λ (n : ℕ). drop (1024 * a) (take n ys)) (sym is)
    ∙ drop-take (1024 * a) (1024 * l) ys

-- the node of a span from those of its two parts, each of bytes that the input may have: where, of all such bytes, the top
-- of the whole is the parent of theirs
IsNodeOf-parts : (input : KnownInput) (mode : Mode) (first a l b r : ℕ) (x y : Node) → b ≡ a + l → 1024 * b ≤ input.len
    → ((all : List ℕ) → length all ≡ input.len → top mode (first + a) (part all a (l + r))
    ≡ parent_node mode
    (chaining (top mode (first + a) (part all a l)))
    (chaining (top mode (first + b) (part all b r))))
    → IsNodeOf input mode first (record { first = a; count = l }) x
    → IsNodeOf input mode first (record { first = b; count = r }) y
    → IsNodeOf input mode first (record { first = a; count = l + r }) (parent_node mode (chaining x) (chaining y))
IsNodeOf-parts input mode first a l b r x y next short whole x_is y_is =
    let xs = x_is.bytes in
    let ys = y_is.bytes in
    let k = 1024 * b in
    let x_short : k ≤ length xs = omega (arith, x_is.may_be.len_is) in
    let all = spliced k xs ys in
    let may = MayBe-spliced input k xs ys short x_is.may_be y_is.may_be in
    let front : part all a l ≡ part xs a l =
    front_part k a l all xs (omega (arith, next)) (take-spliced k xs ys x_short) in
    let back : part all b r ≡ part ys b r = ap (take (1024 * r)) (drop-spliced k xs ys x_short) in
    let left : x ≡ top mode (first + a) (part all a l) = x_is.is_top ∙ ap (top mode (first + a)) (sym front) in
    let right : y ≡ top mode (first + b) (part all b r) = y_is.is_top ∙ ap (top mode (first + b)) (sym back) in
    record {
      bytes = all;
      may_be = may;
      is_top = (λ i. parent_node mode (chaining (left i)) (chaining (right i))) ∙ sym (whole all may.len_is);
    }

-- the node of a subtree from those of its two children
pub IsNodeOf-joined : (input : KnownInput) (mode : Mode) (first a l b r : ℕ) (x y : Node)
    → AreChildren (chunks input.len) a l b r
    → IsNodeOf input mode first (record { first = a; count = l }) x
    → IsNodeOf input mode first (record { first = b; count = r }) y
    → IsNodeOf input mode first (record { first = a; count = l + r }) (parent_node mode (chaining x) (chaining y))
IsNodeOf-joined input mode first a l b r x y kids =
    let kid = Kids-from_AreChildren (chunks input.len) a l b r (omega arith) kids in
    IsNodeOf-parts input mode first a l b r x y kid.next (omega (arith, kid.ends, kid.some))
    (λ all same. top-part all mode first a l b r (subst (λ (m : ℕ). AreChildren (chunks m) a l b r) (sym same) kids))

-- the same of bytes in a row that are halved as a tree of their own is, whether or not this is one of the input's
pub IsNodeOf-halves : (input : KnownInput) (mode : Mode) (first a l b r : ℕ) (x y : Node)
    → b ≡ a + l → IsLeft (l + r) l → 0 < r → b + r ≤ chunks input.len
    → IsNodeOf input mode first (record { first = a; count = l }) x
    → IsNodeOf input mode first (record { first = b; count = r }) y
    → IsNodeOf input mode first (record { first = a; count = l + r }) (parent_node mode (chaining x) (chaining y))
IsNodeOf-halves input mode first a l b r x y next is_left some inside =
    IsNodeOf-parts input mode first a l b r x y next (omega (arith, inside, some))
    (λ all same. top-halves all mode first a l b r next is_left some (omega (arith, inside, same)))

-- the root of an input that is told is the top of its bytes
pub IsRootOf-told : (input : KnownInput) (mode : Mode) (first : ℕ) (node : Node) → IsRootOf input mode first node
    → (all : List ℕ) → input.told ≡ Some all → node ≡ top mode first all
IsRootOf-told input mode first node is all told = is.is_top ∙ ap (top mode first) (is.may_be.told_is all told)

-- the same of an input in memory that is the known one
pub IsNodeOf-named : (bytes : List ℕ) (input : KnownInput) (mode own_mode : Mode) (first own_first : ℕ) (span : Span)
    (node : Node)
    → in_memory bytes ≡ input → mode ≡ own_mode → first ≡ own_first → node ≡ top_of bytes mode first span
    → IsNodeOf input own_mode own_first span node
IsNodeOf-named bytes input mode own_mode first own_first span node input_is mode_is first_is is = record {
  bytes = bytes;
  may_be = subst (λ (k : KnownInput). MayBe k bytes) input_is (MayBe-in_memory bytes);
  is_top = is ∙ (λ i. top_of bytes (mode_is i) (first_is i) span);
}

-- ---- bytes that were read

option_cases : (o : Option (List ℕ)) → (o ≡ None) ⊎ ((y : List ℕ) × (o ≡ Some y))
option_cases None = inl refl
option_cases (Some y) = inr (y, refl)

is_there : Option (List ℕ) → Bool
is_there None = false
is_there (Some y) = true

not_told : (o : Option (List ℕ)) (all : List ℕ) → o ≡ None → o ≡ Some all → ⊥
unfolding is_there
not_told o all none some = false≢true (ap is_there (sym none ∙ some))

zeros : ℕ → List ℕ
zeros zero = []
zeros (suc n) = 0 ∷ zeros n

length-zeros : (n : ℕ) → length (zeros n) ≡ n
unfolding zeros
length-zeros zero = refl
length-zeros (suc n) = ap suc (length-zeros n)

-- bytes at place a among zeros
amid : ℕ → List ℕ → ℕ → List ℕ
amid a bytes rest = zeros a ++ (bytes ++ zeros rest)

length-amid : (a : ℕ) (bytes : List ℕ) (rest : ℕ) → length (amid a bytes rest) ≡ a + (length bytes + rest)
unfolding amid
length-amid a bytes rest = omega (
  arith,
  length-append (zeros a) (bytes ++ zeros rest),
  length-append bytes (zeros rest),
  length-zeros a,
  length-zeros rest,
)

take-front : (n : ℕ) (bytes : List ℕ) (rest : ℕ) → (n ≡ length bytes) ⊎ ((rest ≡ 0) × (length bytes ≤ n))
    → take n (bytes ++ zeros rest) ≡ bytes
unfolding zeros
take-front n bytes rest (inl e) =
    ap (λ (k : ℕ). take k (bytes ++ zeros rest)) e ∙ take-append_seam bytes (zeros rest)
take-front n bytes rest (inr (none, short)) =
    ap (λ (k : ℕ). take n (bytes ++ zeros k)) none ∙ ap (take n) (append-nil bytes) ∙ take_all n bytes short

drop-amid : (a : ℕ) (bytes : List ℕ) (rest : ℕ) → drop a (amid a bytes rest) ≡ bytes ++ zeros rest
unfolding amid
drop-amid a bytes rest =
    ap (λ (k : ℕ). drop k (zeros a ++ (bytes ++ zeros rest))) (sym (length-zeros a))
    ∙ drop-append_seam (zeros a) (bytes ++ zeros rest)

-- the node of bytes that were read for a span: as many as are its own, and its own where they are told
pub IsNodeOf-read : (input : KnownInput) (mode : Mode) (first : ℕ) (s : Span) (node : Node) (bytes : List ℕ)
    → s.first + s.count ≤ chunks input.len → 0 < s.count
    → length bytes ≡ min (1024 * s.count) (input.len - 1024 * s.first)
    → ((all : List ℕ) → input.told ≡ Some all
    → (length all ≡ input.len) × (bytes ≡ part all s.first s.count))
    → node ≡ top mode (first + s.first) bytes
    → IsNodeOf input mode first s node
IsNodeOf-read input mode first s node bytes inside some len told is =
    elim (option_cases input.told) [
      | inr (all, here) ↦
          let known = told all here in
          let may : MayBe input all = record {
            len_is = known.0;
            told_is = λ other there. some_is all other (sym here ∙ there);
          } in
          record { bytes = all; may_be = may; is_top = is ∙ ap (top mode (first + s.first)) known.1 }
      | inl none ↦
          let a = 1024 * s.first in
          let rest = input.len - (a + length bytes) in
          let low : a ≤ input.len = omega arith in
          let all = amid a bytes rest in
          let may : MayBe input all = record {
            len_is = omega (arith, length-amid a bytes rest, len);
            told_is = λ other there. absurd (not_told input.told other none there);
          } in
          let which : (1024 * s.count ≡ length bytes) ⊎ ((rest ≡ 0) × (length bytes ≤ 1024 * s.count)) =
          elim (cases_lt (input.len - a) (1024 * s.count)) [
            | inl less ↦ inr (omega arith, omega arith)
            | inr more ↦ inl (omega arith)
          ] in
          let here : part all s.first s.count ≡ bytes =
          ap (take (1024 * s.count)) (drop-amid a bytes rest) ∙ take-front (1024 * s.count) bytes rest which in
          record { bytes = all; may_be = may; is_top = is ∙ ap (top mode (first + s.first)) (sym here) }
    ]
