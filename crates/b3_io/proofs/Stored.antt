-- Files in memory: which content a name has among them, and after a write.
use Rattle.std.proofs.Common.{◌≡◌, ℕ, zero, suc, ◌+◌, ◌-◌, ◌<◌, ◌≤◌, min, Bool, true, false, cond, List, [], ◌∷◌, ◌++◌, length, take, drop, set, get_or, Option, None, Some, IfSome, bytes_eq, string_bytes, slice_get, refl, sym, ◌∙◌, ap, inl, inr, add-one, length-drop, arith}
use Rattle.std.specs.Option.{option_map_or}
use Rattle.std.proofs.Math.Seq.{drop-length, take-append_seam, take-suc}
use Rattle.std.proofs.lemmas.Bool.{cases_Bool, cases_lt}
use Rattle.std.proofs.lemmas.Option.{slice_get-get_or}
use Rattle.std.proofs.lemmas.List.{drop-drop, length-take, length-take-le, nil_from_length, take-append-drop, take_min, take_rest}
use Rattle.std.proofs.lemmas.Slice.Eq.{bytes_eq-Decides}
use Rattle.b3_io.specs.declared.memory_shelf.StoredFile.{StoredFile}
use Rattle.b3_io.specs.Contents.{Gives}
use Rattle.b3_io.specs.MemoryShelves.{content_among, IsFirstAt, Puts}

-- the first of two contents that is there
abbrev pub first_of_two : Option (List ℕ) → Option (List ℕ) → Option (List ℕ)
first_of_two None y = y
first_of_two (Some x) y = Some x

-- among files, and then others
pub content_among-append : (xs ys : List StoredFile) (name : List ℕ)
    → content_among (xs ++ ys) name ≡ first_of_two (content_among xs name) (content_among ys name)
content_among-append [] ys name = refl
content_among-append (x ∷ xs) ys name =
    elim (bytes_eq (string_bytes x.name) name)
    as (λ b. cond b (Some x.content.items) (content_among (xs ++ ys) name)
    ≡ first_of_two (cond b (Some x.content.items) (content_among xs name)) (content_among ys name))
    [ true ↦ refl | false ↦ content_among-append xs ys name ]

-- nothing after what was found
first_of_two-none : (found : Option (List ℕ)) → first_of_two found None ≡ found
first_of_two-none None = refl
first_of_two-none (Some x) = refl

-- the second test of the same
cond-same : (b : Bool) (x y z : Option (List ℕ)) → cond b x z ≡ cond b x (cond b y z)
cond-same true x y z = refl
cond-same false x y z = refl

-- equal bytes
same_bytes : (x y : List ℕ) → bytes_eq x y ≡ true → x ≡ y
same_bytes x y = (bytes_eq-Decides x y).0

-- bytes are equal to themselves
bytes_eq-same : (x : List ℕ) → bytes_eq x x ≡ true
bytes_eq-same x = (bytes_eq-Decides x x).1 refl

-- one more file that has another name
pub content_among-take_more : (files : List StoredFile) (name : List ℕ) (k : ℕ) (file : StoredFile) → k < length files
    → content_among (take k files) name ≡ None → file ≡ get_or files k file
    → bytes_eq (string_bytes file.name) name ≡ false
    → content_among (take (k + 1) files) name ≡ None
content_among-take_more files name k file within before is other =
    ap (λ n. content_among (take n files) name) (add-one k)
    ∙ ap (λ some. content_among some name) (take-suc files k file within)
    ∙ content_among-append (take k files) (get_or files k file ∷ []) name
    ∙ ap (λ found. first_of_two found (content_among (get_or files k file ∷ []) name)) before
    ∙ ap (λ f. content_among (f ∷ []) name) (sym is)
    ∙ ap (λ b. cond b (Some file.content.items) None) other

-- a file that has the name, after files that have not
pub first_at : (files : List StoredFile) (name : List ℕ) (k : ℕ) (file : StoredFile) → k < length files
    → content_among (take k files) name ≡ None → file ≡ get_or files k file
    → bytes_eq (string_bytes file.name) name ≡ true
    → IsFirstAt files name k
first_at files name k file within before is same = record {
  within = within;
  before = before;
  named = let named : string_bytes (get_or files k file).name ≡ name = ap (λ f. string_bytes f.name) (sym is)
      ∙ same_bytes (string_bytes file.name) name same in
      rw (slice_get-get_or files k file within) named;
}

-- a file whose name is not this one, and the files after it
among_rest : (file : StoredFile) (found : Option (List ℕ)) (name : List ℕ)
    → cond (bytes_eq (string_bytes file.name) name) (Some file.content.items) found ≡ None
    → (bytes_eq (string_bytes file.name) name ≡ false) × (found ≡ None)
among_rest file found name e =
    elim (cases_Bool (bytes_eq (string_bytes file.name) name)) [
      | inl same ↦ absurd (cc (ap (λ b. cond b (Some file.content.items) found) same))
      | inr other ↦ (other, sym (ap (λ b. cond b (Some file.content.items) found) other) ∙ e)
    ]

-- the content of the first file of a name
content_at : (files : List StoredFile) (name : List ℕ) (k : ℕ) → k < length files
    → content_among (take k files) name ≡ None
    → IfSome (slice_get files k) (λ file. string_bytes file.name ≡ name)
    → content_among files name ≡ Some (option_map_or (λ file. file.content.items) (slice_get files k) [])
content_at [] name k within before named = absurd (omega arith)
content_at (file ∷ files) name zero within before named =
    ap (λ b. cond b (Some file.content.items) (content_among files name))
    (ap (λ bytes. bytes_eq bytes name) named ∙ bytes_eq-same name)
content_at (file ∷ files) name (suc k) within before named =
    let rest = among_rest file (content_among (take k files) name) name before in
    ap (λ b. cond b (Some file.content.items) (content_among files name)) rest.0
    ∙ content_at files name k (omega arith) rest.1 named

-- the first file of a name has its content
pub content_among-first : {files : List StoredFile} {name : List ℕ} {k : ℕ} → IsFirstAt files name k
    → content_among files name ≡ Some (option_map_or (λ file. file.content.items) (slice_get files k) [])
content_among-first {files} {name} {k} first = content_at files name k first.within first.before first.named

-- the content of a name that was found
pub content_among-found : (files : List StoredFile) (name : List ℕ) (found : Option ℕ) (k : ℕ) → found ≡ Some k
    → IfSome found (λ j. IsFirstAt files name j)
    → content_among files name ≡ Some (option_map_or
    (λ j. option_map_or (λ file. file.content.items) (slice_get files j) []) found [])
content_among-found files name None k e first = absurd (cc e)
content_among-found files name (Some j) k e first = content_among-first first

-- two names that differ
cond-other : (x y : List ℕ) (p q : List ℕ) (found : Option (List ℕ)) (asked : List ℕ) → bytes_eq x y ≡ false
    → cond (bytes_eq x asked) (Some p) (cond (bytes_eq y asked) (Some q) found) ≡ cond (bytes_eq y asked) (Some q)
    (cond (bytes_eq x asked) (Some p) found)
cond-other x y p q found asked other =
    elim (cases_Bool (bytes_eq x asked)) [
      | inl is_x ↦ elim (cases_Bool (bytes_eq y asked)) [
        | inl is_y ↦
            let same : x ≡ y = same_bytes x asked is_x ∙ sym (same_bytes y asked is_y) in
            absurd (cc (bytes_eq-same y, ap (λ bytes. bytes_eq bytes y) same, other))
        | inr not_y ↦ rw (is_x, not_y) refl
      ]
      | inr not_x ↦ rw not_x refl
    ]

-- new content for the first file of a name
content_among-set : (files : List StoredFile) (name content : List ℕ) (k : ℕ) (new : StoredFile) (asked : List ℕ)
    → k < length files → content_among (take k files) name ≡ None
    → IfSome (slice_get files k) (λ file. string_bytes file.name ≡ name)
    → string_bytes new.name ≡ name → new.content.items ≡ content
    → content_among (set files k new) asked ≡ cond (bytes_eq name asked) (Some content) (content_among files asked)
content_among-set [] name content k new asked within before named new_name new_content = absurd (omega arith)
content_among-set (file ∷ files) name content zero new asked within before named new_name new_content =
    ap (λ bytes. cond (bytes_eq bytes asked) (Some new.content.items) (content_among files asked)) new_name
    ∙ ap (λ items. cond (bytes_eq name asked) (Some items) (content_among files asked)) new_content
    ∙ cond-same (bytes_eq name asked) (Some content) (Some file.content.items) (content_among files asked)
    ∙ ap (λ bytes. cond (bytes_eq name asked) (Some content)
    (cond (bytes_eq bytes asked) (Some file.content.items) (content_among files asked))) (sym named)
content_among-set (file ∷ files) name content (suc k) new asked within before named new_name new_content =
    let rest = among_rest file (content_among (take k files) name) name before in
    ap (λ found. cond (bytes_eq (string_bytes file.name) asked) (Some file.content.items) found)
    (content_among-set files name content k new asked (omega arith) rest.1 named new_name new_content)
    ∙ cond-other (string_bytes file.name) name file.content.items content (content_among files asked) asked rest.0

-- the first file of a name gets new content
pub puts_set : {files : List StoredFile} {name : List ℕ} {k : ℕ} (content : List ℕ) (new file : StoredFile)
    → IsFirstAt files name k
    → file ≡ get_or files k file → string_bytes new.name ≡ string_bytes file.name → new.content.items ≡ content
    → Puts (content_among files) (content_among (set files k new)) name content
puts_set {files} {name} {k} content new file first is same_name new_content asked =
    content_among-set files name content k new asked first.within first.before first.named
    (same_name ∙ rw (slice_get-get_or files k file first.within, ← is) at first.named) new_content

-- a new file, where none has the name
pub puts_push : (files : List StoredFile) (name content : List ℕ) (new : StoredFile) → content_among files name ≡ None
    → string_bytes new.name ≡ name → new.content.items ≡ content
    → Puts (content_among files) (content_among (files ++ new ∷ [])) name content
puts_push files name content new none new_name new_content asked =
    content_among-append files (new ∷ []) asked
    ∙ ap (λ bytes. first_of_two (content_among files asked)
    (cond (bytes_eq bytes asked) (Some new.content.items) None)) new_name
    ∙ ap (λ items. first_of_two (content_among files asked) (cond (bytes_eq name asked) (Some items) None)) new_content
    ∙ elim (cases_Bool (bytes_eq name asked)) [
      | inl same ↦
          let absent : content_among files asked ≡ None = ap (content_among files) (sym (same_bytes name asked same))
          ∙ none in
          rw (same, absent) refl
      | inr other ↦ rw other (first_of_two-none (content_among files asked))
    ]

-- of what is left after those that were given, the first bytes are given
gives_within : (content : List ℕ) (consumed count buffer : ℕ) → consumed ≤ length content
    → count ≡ min (length (drop consumed content)) buffer → 0 < buffer
    → Gives (drop consumed content) (take count (drop consumed content)) (drop (consumed + count) content)
gives_within content consumed count buffer within is_least some = record {
  parts =
      sym (take-append-drop count (drop consumed content))
      ∙ ap (λ rest. take count (drop consumed content) ++ rest) (drop-drop count consumed content);
  end = λ none. nil_from_length (drop consumed content) (
      let few : length (take count (drop consumed content)) ≡ 0 = ap length none in
      omega (arith, few, length-take count (drop consumed content), is_least, some)
      );
}

-- a read gives the bytes after those that were given
pub gives_next : (content : List ℕ) (consumed count buffer : ℕ)
    → count ≡ min (length (drop (min consumed (length content)) content)) buffer → 0 < buffer
    → Gives (drop consumed content) (take count (drop (min consumed (length content)) content)) (drop (consumed + count) content)
gives_next content consumed count buffer is_least some =
    elim (cases_lt (length content) consumed) [
      | inl past ↦
          let end : min consumed (length content) ≡ length content = omega arith in
          let none : drop (length content) content ≡ [] = drop-length content in
          let zero : count ≡ 0 = is_least ∙ ap (λ n. min (length (drop n content)) buffer) end
          ∙ ap (λ rest. min (length rest) buffer) none ∙ omega arith in
          let gone : drop consumed content ≡ [] = nil_from_length (drop consumed content)
          (omega (arith, length-drop consumed content)) in
          let gone_on : drop (consumed + count) content ≡ [] = nil_from_length (drop (consumed + count) content)
          (omega (arith, length-drop (consumed + count) content)) in
          rw (gone_on, gone, end, none, zero) (record { parts = refl; end = λ _. refl })
      | inr within ↦
          let here : min consumed (length content) ≡ consumed = omega arith in
          rw here (gives_within content consumed count buffer within (rw here at is_least) some)
    ]

-- a read from the file that is begun
pub shelf_gives : (files : List StoredFile) (begun : Option ℕ) (k consumed count m : ℕ) (file : StoredFile)
    (content buffer copied : List ℕ)
    → begun ≡ Some k → k < length files → file ≡ get_or files k file → content ≡ file.content.items
    → m ≡ min consumed (length content)
    → count ≡ min (length (take (length content - m) (drop m content))) (length buffer)
    → copied ≡ take count (take (length content - m) (drop m content))
    → 0 < length buffer
    → let begun_content = option_map_or (λ j. option_map_or (λ f. f.content.items) (slice_get files j) []) begun [] in
    Gives (drop consumed begun_content) (take count (copied ++ drop count buffer)) (drop (consumed + count) begun_content)
shelf_gives files begun k consumed count m file content buffer copied begun_is within is content_is m_is count_is copied_is
    some =
    let stored : option_map_or (λ f. f.content.items) (slice_get files k) [] ≡ content =
    ap (λ found. option_map_or (λ f. f.content.items) found []) (slice_get-get_or files k file within)
    ∙ ap (λ f. f.content.items) (sym is) ∙ sym content_is in
    let rest : take (length content - m) (drop m content) ≡ drop m content = take_rest content m in
    let least : count ≡ min (length (drop m content)) (length buffer) = count_is
    ∙ ap (λ bytes. min (length bytes) (length buffer)) rest in
    let first : copied ≡ take count (drop m content) = copied_is ∙ ap (take count) rest in
    let sized : length copied ≡ count = ap length first
    ∙ length-take-le count (drop m content) (omega (arith, least)) in
    let taken : take count (copied ++ drop count buffer) ≡ take count (drop m content) =
    ap (λ n. take n (copied ++ drop count buffer)) (sym sized) ∙ take-append_seam copied (drop count buffer) ∙ first in
    rw (begun_is, stored, taken, m_is) (gives_next content consumed count (length buffer) (rw m_is at least) some)

-- the bytes from an offset on, after those that were given
pub shelf_gives_at : (files : List StoredFile) (begun : Option ℕ) (k consumed offset count : ℕ) (file : StoredFile)
    (content buffer copied : List ℕ)
    → begun ≡ Some k → k < length files → file ≡ get_or files k file → content ≡ file.content.items
    → count ≡ min (length (drop (consumed + offset) content)) (length buffer)
    → copied ≡ take count (drop (consumed + offset) content)
    → let begun_content = option_map_or (λ j. option_map_or (λ f. f.content.items) (slice_get files j) []) begun [] in
    take count (copied ++ drop count buffer) ≡ take (length buffer) (drop offset (drop consumed begun_content))
shelf_gives_at files begun k consumed offset count file content buffer copied begun_is within is content_is count_is
    copied_is =
    let rest = drop (consumed + offset) content in
    let stored : option_map_or (λ f. f.content.items) (slice_get files k) [] ≡ content =
    ap (λ found. option_map_or (λ f. f.content.items) found []) (slice_get-get_or files k file within)
    ∙ ap (λ f. f.content.items) (sym is) ∙ sym content_is in
    let sized : length copied ≡ count = ap length copied_is
    ∙ length-take-le count rest (omega (arith, count_is)) in
    let taken : take count (copied ++ drop count buffer) ≡ take count rest =
    ap (λ n. take n (copied ++ drop count buffer)) (sym sized) ∙ take-append_seam copied (drop count buffer) ∙ copied_is in
    let most : count ≡ min (length buffer) (length rest) = omega (arith, count_is) in
    let all : take count rest ≡ take (length buffer) rest =
    ap (λ n. take n rest) most ∙ take_min (length buffer) rest in
    rw (begun_is, stored) (taken ∙ all ∙ ap (take (length buffer)) (sym (drop-drop offset consumed content)))
