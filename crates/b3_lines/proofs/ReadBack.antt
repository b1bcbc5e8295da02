-- A line that was written reads back.
use Rattle.std.proofs.Common.{◌≡◌, ◌≢◌, ℕ, ◌-◌, false, ◌==◌, List, [], ◌∷◌, ◌++◌, length, refl, sym, ap, subst, ◌∙◌, arith, inl, inr}
use Rattle.std.specs.Prelude.{IsUtf8}
use Rattle.std.specs.List.{list_any}
use Rattle.std.proofs.lemmas.Bool.{cases_Bool, cond-false, ne_eqb, or_from}
use Rattle.hex.specs.Hex.{IsBytes, encode_lower, lower_digits}
use Rattle.hex.proofs.HexLemmas.{decode_of-encode_lower, length-encode_with}
use Rattle.b3_lines.specs.Names.{Spells, backslash, carriage_return, escape, escaped, holds_bad_character, itself, line_feed, no_bytes}
use Rattle.b3_lines.specs.Reading.{AreDigits, Reads, ReadsTagged, without_carriage_return}
use Rattle.b3_lines.specs.Writing.{is_marked, plain_text, shown, spaces, tag_prefix, tag_separator, tagged_text}
use Rattle.b3_lines.proofs.Escapes.{escape-cases, escaped-cons, escaped-nil}
use Rattle.b3_lines.proofs.LineBytes.{list_any-at, list_any-plain, list_any-tagged}
use Rattle.b3_lines.proofs.Refusals.{without_carriage_return-cond}
use Rattle.b3_lines.proofs.Marks.{mark-marked, mark-unmarked, shown-marked, shown-unmarked}
use Rattle.b3_lines.proofs.Texts.{IsUtf8-plain, IsUtf8-tagged}

-- ---- the escaped name spells the name

-- in front of what spells a name, a byte as it is written spells that byte
Spells-escape : (b : ℕ) {text name : List ℕ} → Spells text name → Spells (escape b ++ text) (b ∷ name)
Spells-escape b {text = text} {name = name} later =
    escape-cases b (λ t. Spells (t ++ text) (b ∷ name)) (λ is. rw is (backslash later)) (λ is. rw is (line_feed later))
    (λ is. rw is (carriage_return later)) (λ not_backslash _ _. itself not_backslash later)

-- a name as it is written spells that name
pub Spells-escaped : (name : List ℕ) → Spells (escaped name) name
Spells-escaped [] = rw escaped-nil no_bytes
Spells-escaped (b ∷ name) = rw (escaped-cons b name) (Spells-escape b (Spells-escaped name))

-- ---- no carriage return stands at the end

-- no byte is written as a carriage return
no_return-escape : (b : ℕ) → list_any (λ x. x == 13) (escape b) ≡ false
no_return-escape b =
    escape-cases b (λ t. list_any (λ x. x == 13) t ≡ false) (λ _. refl) (λ _. refl) (λ _. refl)
    (λ _ _ not_return. or_from (b == 13) false (ne_eqb b 13 not_return) refl)

-- what holds no carriage return is left as it is
without_carriage_return-none : (text : List ℕ) → list_any (λ x. x == 13) text ≡ false
    → without_carriage_return text ≡ text
without_carriage_return-none text none =
    without_carriage_return-cond text
    ∙ cond-false _ _ _ (list_any-at (λ x. x == 13) text (length text - 1) none refl)

-- ---- reading back

-- the digits of 32 bytes
AreDigits-encode_lower : (digest : List ℕ) → length digest ≡ 32 → IsBytes digest
    → AreDigits (encode_lower digest) digest
AreDigits-encode_lower digest count bytes =
    let twice = length-encode_with lower_digits digest in
    record { count = omega (arith, twice, count); value = decode_of-encode_lower digest bytes }

-- what is written for a digest of 32 bytes and a lawful name reads to that digest, that name and its shown form
pub Reads-plain : (digest name : List ℕ) → length digest ≡ 32 → IsBytes digest → name ≢ []
    → holds_bad_character name ≡ false
    → IsUtf8 name → Reads (plain_text digest name) digest name (shown name)
unfolding plain_text
Reads-plain digest name count bytes some allowed utf8 =
    let same = without_carriage_return-none _ (list_any-plain (λ x. x == 13) no_return-escape digest name) in
    let digits = AreDigits-encode_lower digest count bytes in
    record {
      says = elim (cases_Bool (is_marked name)) [
        | inl marked ↦ inr (record {
          digits = encode_lower digest;
          raw_name = escaped name;
          digits_are = digits;
          text_is = same ∙ ap (λ m. m ++ encode_lower digest ++ spaces ++ escaped name) (mark-marked name marked);
          spells = Spells-escaped name;
          shown_is = shown-marked name marked;
        })
        | inr unmarked ↦ inl (record {
          digits = encode_lower digest;
          digits_are = digits;
          text_is = same ∙ mark-unmarked (λ m text. m ++ encode_lower digest ++ spaces ++ text) name unmarked;
          shown_is = shown-unmarked name unmarked;
        })
      ];
      is_text = subst IsUtf8 (sym same) (IsUtf8-plain digest name utf8);
      is_named = some;
      is_lawful = allowed;
    }

-- ---- tagged

-- a tagged line reads back as a plain one does
pub ReadsTagged-tagged : (digest name : List ℕ) → length digest ≡ 32 → IsBytes digest → name ≢ []
    → holds_bad_character name ≡ false
    → IsUtf8 name → ReadsTagged (tagged_text digest name) digest name (shown name)
unfolding tagged_text
ReadsTagged-tagged digest name count bytes some allowed utf8 =
    let same = without_carriage_return-none _ (list_any-tagged (λ x. x == 13) no_return-escape digest name) in
    let digits = AreDigits-encode_lower digest count bytes in
    record {
      says = elim (cases_Bool (is_marked name)) [
        | inl marked ↦ inr (record {
          digits = encode_lower digest;
          raw_name = escaped name;
          digits_are = digits;
          text_is = same
              ∙ ap (λ m. m ++ tag_prefix ++ escaped name ++ tag_separator ++ encode_lower digest) (mark-marked name marked);
          spells = Spells-escaped name;
          shown_is = shown-marked name marked;
        })
        | inr unmarked ↦ inl (record {
          digits = encode_lower digest;
          digits_are = digits;
          text_is = same
              ∙ mark-unmarked (λ m text. m ++ tag_prefix ++ text ++ tag_separator ++ encode_lower digest) name unmarked;
          shown_is = shown-unmarked name unmarked;
        })
      ];
      is_text = subst IsUtf8 (sym same) (IsUtf8-tagged digest name utf8);
      is_named = some;
      is_lawful = allowed;
    }
