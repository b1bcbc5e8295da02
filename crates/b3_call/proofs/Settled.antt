-- What words that are not refused say.
use Rattle.std.proofs.Common.{◌≡◌, ◌≢◌, ℕ, ◌+◌, ◌-◌, ◌^◌, ◌≤◌, Bool, true, false, ◌&&◌, not, nat_lt, List, Option, None, Some, is_some, if◌then◌else◌, unwrap_or, refl}
use Rattle.std.specs.Prelude.{vec_len}
use Rattle.std.specs.Option.{option_map}
use Rattle.std.proofs.lemmas.Bool.{ltb-false}
use Rattle.b3_program.specs.Usages.{check_excludes, excluded_by_check, excluded_by_tag, first_given, reads_input, refusal_for, seeks_past_end, tag_excludes, usage_text}
use Rattle.b3_program.specs.declared.usage.Usage.TheVariants.{KeyNeedsFiles, QuietAlone, RawOne, SeekPastEnd, TwoKeys}
use Rattle.b3_program.specs.declared.words.Words.{Words}

-- where a choice is None, and its first side is not, it is the second
past_first : (b : Bool) (x y : Option (List ℕ)) → (b ≡ true → x ≢ None) → (if b then x else y) ≡ None → y ≡ None
past_first true x y some none = absurd (some refl none)
past_first false x y some none = none

-- and the test does not hold
past-false : (b : Bool) (x y : Option (List ℕ)) → x ≢ None → (if b then x else y) ≡ None → b ≡ false
past-false true x y some none = absurd (some none)
past-false false x y some none = refl

-- an option that is excluded is told
excluded-some : (b : Bool) (option : Option (List ℕ)) (refusal : List ℕ → List ℕ) → (b && is_some option) ≡ true
    → option_map refusal option ≢ None
excluded-some true (Some option) refusal given none = cc none
excluded-some true None refusal given none = cc given
excluded-some false option refusal given none = cc given

-- words that are not refused ask for bytes of the output
pub in_output_from_none : (words : Words) → refusal_for words ≡ None
    → unwrap_or words.seek 0 + unwrap_or words.length 32 ≤ 2 ^ 64 - 1
in_output_from_none words none =
    let excluded = first_given (excluded_by_check words) in
    let tagged = first_given (excluded_by_tag words) in
    let one = past_first _ _ _ (excluded-some words.check excluded check_excludes) none in
    let two = past_first (words.keyed && is_some words.derive_key) (Some (usage_text TwoKeys)) _ (λ _ e. cc e) one in
    let three = past_first (words.quiet && not words.check) (Some (usage_text QuietAlone)) _ (λ _ e. cc e) two in
    let four = past_first (words.raw && nat_lt 1 (vec_len words.files)) (Some (usage_text RawOne)) _ (λ _ e. cc e) three in
    let five = past_first (words.keyed && reads_input words) (Some (usage_text KeyNeedsFiles)) _ (λ _ e. cc e) four in
    let six = past_first _ _ _ (excluded-some words.tag tagged tag_excludes) five in
    ltb-false (2 ^ 64 - 1) (unwrap_or words.seek 0 + unwrap_or words.length 32)
    (past-false (seeks_past_end words) (Some (usage_text SeekPastEnd)) _ (λ e. cc e) six)

-- and raw output of one file at most
pub few_from_none : (words : Words) → refusal_for words ≡ None → (words.raw && nat_lt 1 (vec_len words.files)) ≡ false
few_from_none words none =
    let excluded = first_given (excluded_by_check words) in
    let one = past_first _ _ _ (excluded-some words.check excluded check_excludes) none in
    let two = past_first (words.keyed && is_some words.derive_key) (Some (usage_text TwoKeys)) _ (λ _ e. cc e) one in
    let three = past_first (words.quiet && not words.check) (Some (usage_text QuietAlone)) _ (λ _ e. cc e) two in
    past-false (words.raw && nat_lt 1 (vec_len words.files)) (Some (usage_text RawOne)) _ (λ e. cc e) three
