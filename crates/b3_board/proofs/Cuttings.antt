-- A board on which all spans are open is lawful.
use Rattle.std.proofs.Common.{inl, inr, ◌⊎◌, ◌≡◌, ℕ, zero, suc, ◌+◌, ◌-◌, ◌*◌, ◌/◌, ◌%◌, ◌^◌, ◌<◌, ◌≤◌, max, min, ◌++◌, false, List, [], ◌∷◌, length, take, map, get_or, arith, refl, sym, subst, ap, ◌∙◌}
use Rattle.std.proofs.lemmas.Bool.{cases_lt, false≢true, ne_eqb}
use Rattle.std.proofs.lemmas.List.{get_or_past, get_or_push, get_or_append_left, length_push, take-append-le, get_or-map, length-map, take_all, take_more, take-take}
use Rattle.std.proofs.lemmas.List.FromFn.{map-range_with_len_more}
use Rattle.std.specs.List.{range_with_len}
use Rattle.std.proofs.lemmas.List.Sums.{sum_by-cons, sum_by_more, sum_by_push, sum_by-take-le}
use Rattle.std.specs.List.{All, sum_by}
use Rattle.std.proofs.lemmas.List.Elements.{All-get_or}
use Rattle.b3_core.specs.Subtrees.{IsSubtree}
use Rattle.b3_core.specs.Tree.{chunks}
use Rattle.b3_core.specs.declared.modes.Mode.{Mode}
use Rattle.b3_core.specs.declared.spans.Span.{Span}
use Rattle.b3_board.specs.declared.entries.Entry.{Entry}
use Rattle.b3_board.specs.Entries.{at, fresh, nothing, has_chunk, kept_count, open_count, open_spans, pieces, is_kept, FitsState, Lawful}
use Rattle.b3_board.specs.Plans.{IsCutting, IsCuttingTo, grain_span, grain_spans}
use Rattle.b3_board.specs.Spans.{KnownInput, IsSubtreeSpan, chunk_in}
use Rattle.std.proofs.lemmas.Nat.{pow_pos, div-add-mod', mul-le}
use Rattle.std.proofs.Math.Nat.{lt-div-mul-add, pow-le-pow_right}
use Rattle.std.specs.Int.{IsPowerOfTwo, div_ceil}
use Rattle.b3_core.proofs.Grid.{IsSubtree-from_InGrid}
use Rattle.b3_core.proofs.Powers.{double, exponent, lower_multiple, next_power}
use Rattle.b3_core.proofs.Siblings.{IsSubtree-had}
use Rattle.b3_board.proofs.Steps.{has_sum}

abbrev pub no_span : Span
no_span = record { first = 0; count = 0 }

sum_map : (f : Entry → ℕ) (ss : List Span) → sum_by f (map fresh ss) ≡ sum_by (λ s. f (fresh s)) ss
sum_map f [] = refl
sum_map f (s ∷ ss) = sum_by-cons f (fresh s) (map fresh ss) ∙ ap (λ (x : ℕ). f (fresh s) + x) (sum_map f ss)
    ∙ sym (sum_by-cons (λ s. f (fresh s)) s ss)

sum_zero : (ss : List Span) → sum_by (λ s. 0) ss ≡ 0
sum_zero [] = refl
sum_zero (s ∷ ss) = omega (arith, sum_by-cons (λ (s : Span). 0) s ss, sum_zero ss)

module _ (n : ℕ) (spans : List Span) (cutting : IsCutting n spans) where
  abbrev width : Span → ℕ
  width s = s.count

  abbrev up_to : ℕ → ℕ
  up_to i = sum_by width (take i spans)

  sums_rise : (i j : ℕ) → i ≤ j → up_to i ≤ up_to j
  sums_rise i j le = omega (arith, sum_by-take-le width (take j spans) i, ap (sum_by width) (take-take i j spans le))

  pub rises : (i j : ℕ) → i < j → j < length spans → (get_or spans i no_span).first < (get_or spans j no_span).first
  rises i j lt short =
      let a = cutting.begins i no_span (omega arith) in
      let b = cutting.begins j no_span short in
      let c = cutting.some i no_span (omega arith) in
      let d = sum_by_more width spans i no_span (omega arith) in
      let e = sums_rise (i + 1) j (omega arith) in
      omega arith

  once_up_to : (k i : ℕ) → i ≤ length spans → sum_by (λ s. chunk_in k s.first s.count) (take i spans) ≡ chunk_in k 0 (up_to i)
  once_up_to k zero le = omega arith
  once_up_to k (suc i) le =
      let before = once_up_to k i (omega arith) in
      let more = sum_by_more (λ s. chunk_in k s.first s.count) spans i no_span (omega arith) in
      let width_more = sum_by_more width spans i no_span (omega arith) in
      let begins = cutting.begins i no_span (omega arith) in
      let sum = has_sum k 0 (up_to i) (get_or spans i no_span).first (get_or spans i no_span).count (begins
      ∙ omega arith) in
      let next : suc i ≡ i + 1 = omega arith in
      rw next (more ∙ ap (λ (x : ℕ). x + chunk_in k (get_or spans i no_span).first (get_or spans i no_span).count) before
      ∙ sym sum ∙ ap (chunk_in k 0) (sym width_more))

  pub once_all : (k : ℕ) → k < n → sum_by (has_chunk k) (map fresh spans) ≡ 1
  once_all k lt =
      let all = once_up_to k (length spans) (omega arith) in
      let whole : take (length spans) spans ≡ spans = take_all (length spans) spans (omega arith) in
      let e : sum_by (λ s. chunk_in k s.first s.count) spans ≡ chunk_in k 0 (sum_by width spans) = rw whole at all in
      let ends = cutting.ends in
      sum_map (has_chunk k) spans ∙ e ∙ omega arith

  at_fresh : (i : ℕ) → ((i < length spans)
      × (at (map fresh spans) i ≡ fresh (get_or spans i no_span))) ⊎ (at (map fresh spans) i ≡ nothing)
  at_fresh i =
      elim (cases_lt i (length spans)) [
        | inl short ↦ inl (short, get_or-map fresh spans i no_span nothing short)
        | inr past ↦ inr (get_or_past (map fresh spans) i nothing (omega (arith, length-map spans fresh)))
      ]

  none_kept : (i : ℕ) → is_kept (at (map fresh spans) i).state ≡ false
  none_kept i =
      elim (at_fresh i) [
        | inl x ↦ ap (λ (e : Entry). is_kept e.state) x.1
        | inr x ↦ ap (λ (e : Entry). is_kept e.state) x
      ]

pub lawful_new : (input : KnownInput) (mode : Mode) (first : ℕ) (spans : List Span)
    → IsCutting (chunks input.len) spans → Lawful input mode first (map fresh spans)
lawful_new input mode first spans cutting =
    let n = chunks input.len in
    record {
      sound = record {
        in_order = λ i j lt short.
            let j_short : j < length spans = omega (arith, length-map spans fresh) in
            let a = ap (λ (e : Entry). e.span.first) (get_or-map fresh spans i no_span nothing (omega arith)) in
            let b = ap (λ (e : Entry). e.span.first) (get_or-map fresh spans j no_span nothing j_short) in
            omega (arith, a, b, rises n spans cutting i j lt j_short);
        fits = λ i. elim (at_fresh n spans cutting i) [
          | inl x ↦
              let some = cutting.some i no_span x.0 in
              let fresh_fits = sym (ne_eqb (get_or spans i no_span).count 0 (λ z. omega (arith, some))) in
              subst (λ (e : Entry). FitsState e.state e.span.count) (sym x.1) fresh_fits
          | inr x ↦ subst (λ (e : Entry). FitsState e.state e.span.count) (sym x) refl
        ];
        subtrees = λ i. elim (at_fresh n spans cutting i) [
          | inl x ↦ subst (λ (e : Entry). 0 < e.span.count
              → IsSubtreeSpan n e.span) (sym x.1) (λ more. cutting.subtrees i no_span x.0)
          | inr x ↦ subst (λ (e : Entry). 0 < e.span.count
              → IsSubtreeSpan n e.span) (sym x) (λ more. absurd (omega arith))
        ];
        once = once_all n spans cutting;
        tops = λ i kept is. absurd (false≢true (sym (none_kept n spans cutting i) ∙ ap is_kept is));
        all = omega (arith, sum_map kept_count spans, sum_zero spans, sum_map open_count spans, cutting.ends);
      };
      apart = λ i j i_kept j_kept kids. absurd (false≢true (sym (none_kept n spans cutting i) ∙ i_kept));
    }

-- no entry of a fresh board has more chunks than the longest span
pub open_count-fresh : (n grain : ℕ) (spans : List Span) → IsCutting n spans → All (λ s. s.count ≤ grain) spans
    → (i : ℕ) → open_count (at (map fresh spans) i) ≤ grain
open_count-fresh n grain spans cutting few i =
    elim (at_fresh n spans cutting i) [
      | inl x ↦
          let most = All-get_or (λ (s : Span). s.count ≤ grain) spans i no_span x.0 few in
          subst (λ (e : Entry). open_count e ≤ grain) (sym x.1) most
      | inr x ↦ subst (λ (e : Entry). open_count e ≤ grain) (sym x) (omega arith)
    ]

-- the spans of a fresh board, and that it has no piece
pub open_spans-fresh : (spans : List Span) → open_spans (map fresh spans) ≡ spans
open_spans-fresh [] = refl
open_spans-fresh (s ∷ spans) = ap (λ (rest : List Span). s ∷ rest) (open_spans-fresh spans)

pub pieces-fresh : (spans : List Span) → pieces (map fresh spans) ≡ []
pieces-fresh [] = refl
pieces-fresh (s ∷ spans) = pieces-fresh spans

-- a span of a cutting ends inside
pub span_inside : (n : ℕ) (spans : List Span) → IsCutting n spans → (i : ℕ) → i < length spans
    → ((get_or spans i no_span).first + (get_or spans i no_span).count ≤ n) × (0 < (get_or spans i no_span).count)
span_inside n spans cutting i short =
    let begins = cutting.begins i no_span short in
    let more = sum_by_more (λ (s : Span). s.count) spans i no_span short in
    let most = sum_by-take-le (λ (s : Span). s.count) spans (i + 1) in
    let ends = cutting.ends in
    (omega arith, cutting.some i no_span short)

pub kept_none : (spans : List Span) → sum_by kept_count (map fresh spans) ≡ 0
kept_none spans = sum_map kept_count spans ∙ sum_zero spans

-- one more span at the end of a row
pub row_push : (n m c : ℕ) (spans : List Span) → IsCuttingTo n m spans → 0 < c → ∥ IsSubtree n m c ∥₁
    → IsCuttingTo n (m + c) (spans ++ record { first = m; count = c } ∷ [])
row_push n m c spans row some up =
    let s : Span = record { first = m; count = c } in
    let ends = row.ends in
    let back : (i : ℕ) → i < length (spans ++ s ∷ []) → (i < length spans) ⊎ (length spans ≡ i) =
    λ i short. elim (cases_lt i (length spans)) [
      | inl less ↦ inl less
      | inr more ↦ inr (omega (arith, length_push spans s))
    ] in
    record {
      begins = λ i d short. elim (back i short) [
        | inl less ↦ ap (λ (x : Span). x.first) (get_or_append_left spans (s ∷ []) d i less) ∙ row.begins i d less
            ∙ sym (ap (sum_by (λ (x : Span). x.count)) (take-append-le i spans (s ∷ []) (omega arith)))
        | inr last ↦ ap (λ (x : Span). x.first) (get_or_push spans s d i last) ∙ sym ends
            ∙ sym (ap (sum_by (λ (x : Span). x.count)) (take-append-le i spans (s ∷ []) (omega arith)
            ∙ take_all i spans (omega arith)))
      ];
      some = λ i d short. elim (back i short) [
        | inl less ↦ subst (λ (x : Span). 0 < x.count) (sym (get_or_append_left spans (s ∷ []) d i less))
            (row.some i d less)
        | inr last ↦ subst (λ (x : Span). 0 < x.count) (sym (get_or_push spans s d i last)) some
      ];
      subtrees = λ i d short. elim (back i short) [
        | inl less ↦ subst (λ (x : Span). IsSubtreeSpan n x) (sym (get_or_append_left spans (s ∷ []) d i less))
            (row.subtrees i d less)
        | inr last ↦ subst (λ (x : Span). IsSubtreeSpan n x) (sym (get_or_push spans s d i last)) up
      ];
      ends = omega (arith, sum_by_push (λ (x : Span). x.count) spans s);
    }

pub row_none : (n : ℕ) → IsCuttingTo n 0 []
row_none n = record {
  begins = λ i d short. absurd (omega arith);
  some = λ i d short. absurd (omega arith);
  subtrees = λ i d short. absurd (omega arith);
  ends = refl;
}

-- a span of a grain that is a power of two
pub grain_subtree : (n k q : ℕ) → 1 ≤ n → q * 2 ^ k < n → IsSubtree n (q * 2 ^ k) (min (2 ^ k) (n - q * 2 ^ k))
grain_subtree n k q some inside =
    elim (cases_lt (n - q * 2 ^ k) (2 ^ k)) [
      | inr whole_grain ↦
          let c : min (2 ^ k) (n - q * 2 ^ k) ≡ 2 ^ k = omega arith in
          IsSubtree-from_InGrid n record {
            k = k;
            q = q;
            some = omega (
              arith,
              pow_pos k,
            );
            ends = omega arith;
            covers = omega arith;
            least = omega (
              arith,
              pow_pos k,
            );
            starts = refl;
            full = inl c;
          }
      | inl last ↦
          let (j, covers, least) = next_power (n - q * 2 ^ k) (omega arith) in
          let low = exponent j (suc k) (omega (arith, double k)) in
          let e = k - j in
          let sum : k ≡ j + e = omega arith in
          let c : min (2 ^ k) (n - q * 2 ^ k) ≡ n - q * 2 ^ k = omega arith in
          IsSubtree-from_InGrid n record {
            k = j;
            q = q * 2 ^ e;
            some = omega arith;
            ends = omega arith;
            covers = omega arith;
            least = omega arith;
            starts = ap (λ (x : ℕ). q * 2 ^ x) sum ∙ lower_multiple q j e;
            full = inr (omega arith);
          }
    ]

pub grain_push : (n g i : ℕ) (spans : List Span) → 1 ≤ n → IsPowerOfTwo g → i * g < n → IsCuttingTo n (i * g) spans
    → IsCuttingTo n (i * g + min g (n - i * g)) (spans ++ record { first = i * g; count = min g (n - i * g) } ∷ [])
grain_push n g i spans some (k, is) inside row =
    let here : i * 2 ^ k < n = rw (sym is) inside in
    let up : IsSubtree n (i * g) (min g (n - i * g)) = rw is (grain_subtree n k i some here) in
    row_push n (i * g) (min g (n - i * g)) spans row (omega (arith, is, pow_pos k)) ∣ up ∣₁

pub below_ceil : (n g i : ℕ) → 0 < g → i < div_ceil n g → i * g < n
below_ceil n g i some lt =
    let whole : n ≡ n / g * g + n % g = sym (div-add-mod' n g) in
    elim (cases_lt i (n / g)) [
      | inl less ↦ let m = mul-le (i + 1) g (n / g) g (omega arith) (omega arith) in omega arith
      | inr more ↦
          let same : i ≡ n / g = omega arith in
          let rest : 0 < n % g = omega arith in
          let product : i * g ≡ n / g * g = ap (λ (x : ℕ). x * g) same in
          omega arith
    ]

pub grain_next : (n g i : ℕ) (spans ys : List Span) → 1 ≤ n → IsPowerOfTwo g → 0 < g → i < div_ceil n g
    → IsCuttingTo n (min n (i * g)) spans
    → ys ≡ spans ++ record { first = i * g; count = min g (n - i * g) } ∷ [] → IsCuttingTo n (min n ((i + 1) * g)) ys
grain_next n g i spans ys some power more lt row is =
    let inside = below_ceil n g i more lt in
    let here : min n (i * g) ≡ i * g = omega arith in
    let there : i * g + min g (n - i * g) ≡ min n ((i + 1) * g) = omega arith in
    let row2 : IsCuttingTo n (i * g) spans = subst (λ (m : ℕ). IsCuttingTo n m spans) here row in
    let pushed = grain_push n g i spans some power inside row2 in
    subst (λ (xs : List Span). IsCuttingTo n (min n ((i + 1) * g)) xs) (sym is)
    (subst (λ (m : ℕ). IsCuttingTo n m (spans ++ record { first = i * g; count = min g (n - i * g) } ∷ [])) there pushed)

pub grain_done : (n g i : ℕ) (spans : List Span) → 0 < g → i ≡ div_ceil n g → IsCuttingTo n (min n (i * g)) spans
    → IsCuttingTo n n spans
grain_done n g i spans more is row =
    let product : i * g ≡ (n / g + min 1 (n % g)) * g = ap (λ (x : ℕ). x * g) is in
    let all : min n (i * g) ≡ n = elim (cases_lt 0 (n % g)) [
      | inl rest ↦ let one : n / g + min 1 (n % g) ≡ n / g + 1 = omega arith in omega (
        arith,
        product,
        ap (λ (x : ℕ). x * g) one,
        lt-div-mul-add {a = n} {b = g} more,
      )
      | inr none ↦ let one : n / g + min 1 (n % g) ≡ n / g = omega arith in omega (
        arith,
        product,
        ap (λ (x : ℕ). x * g) one,
        div-add-mod' n g,
      )
    ] in
    subst (λ (m : ℕ). IsCuttingTo n m spans) all row

pub power_some : (g : ℕ) → IsPowerOfTwo g → 0 < g
power_some g (k, is) = omega (arith, is, pow_pos k)

-- the spans of a grain are a cutting
grain_row : (n g : ℕ) → 1 ≤ n → IsPowerOfTwo g → (i : ℕ) → i ≤ div_ceil n g
    → IsCuttingTo n (min n (i * g)) (map (grain_span n g) (range_with_len 0 i))
grain_row n g some power zero le =
    let none : 0 ≡ min n (0 * g) = omega arith in
    subst (λ (m : ℕ). IsCuttingTo n m []) none (row_none n)
grain_row n g some power (suc i) le =
    let before = grain_row n g some power i (omega arith) in
    let more : i + 1 ≡ suc i = omega arith in
    let is = map-range_with_len_more (grain_span n g) 0 i i (omega arith) in
    let spans = map (grain_span n g) (range_with_len 0 i) in
    let longer = map (grain_span n g) (range_with_len 0 (i + 1)) in
    let next = grain_next n g i spans longer some power (power_some g power) (omega arith) before is in
    subst (λ (j : ℕ). IsCuttingTo n (min n (j * g)) (map (grain_span n g) (range_with_len 0 j))) more next

pub grain_cutting : (n g : ℕ) → 1 ≤ n → IsPowerOfTwo g → IsCutting n (grain_spans n g)
grain_cutting n g some power =
    grain_done n g (div_ceil n g) _ (power_some g power) refl (grain_row n g some power (div_ceil n g) (omega arith))

pub row_more : (n m i : ℕ) (spans : List Span) → IsCuttingTo n m (take i spans) → i < length spans
    → (get_or spans i no_span).first ≡ m → 0 < (get_or spans i no_span).count
    → IsSubtree n (get_or spans i no_span).first (get_or spans i no_span).count
    → IsCuttingTo n (m + (get_or spans i no_span).count) (take (i + 1) spans)
row_more n m i spans row short first_is some up =
    let s = get_or spans i no_span in
    let c = (get_or spans i no_span).count in
    let same : ◌≡◌ {A = Span} (record { first = m; count = c }) (get_or spans i no_span) =
    λ j. record { first = sym first_is j; count = c } in
    let up2 : IsSubtree n m c = subst (λ (x : ℕ). IsSubtree n x c) first_is up in
    let pushed = row_push n m c (take i spans) row some ∣ up2 ∣₁ in
    let is : take i spans ++ record { first = m; count = c } ∷ [] ≡ take (i + 1) spans =
    ap (λ (x : Span). take i spans ++ x ∷ []) same ∙ sym (take_more spans i no_span short) in
    subst (λ (xs : List Span). IsCuttingTo n (m + c) xs) is pushed

pub row_next : (n m i : ℕ) (spans : List Span) → 1 ≤ n → IsCutting n spans → IsCuttingTo n m (take i spans) → i < length spans
    → ((get_or spans i no_span).first ≡ m) × (0 < (get_or spans i no_span).count)
    × IsSubtree n (get_or spans i no_span).first (get_or spans i no_span).count
row_next n m i spans some cutting row short = (
  cutting.begins i no_span short ∙ row.ends,
  cutting.some i no_span short,
  IsSubtree-had n _ _ some (cutting.subtrees i no_span short),
)

-- a power of two is at most another where half of it is below
pub power-le : (p g : ℕ) → IsPowerOfTwo p → IsPowerOfTwo g → p / 2 < g → p ≤ g
power-le p g (zero, p_is) (j, g_is) lt = omega (arith, p_is, g_is, pow_pos j)
power-le p g (suc k, p_is) (j, g_is) lt =
    let low = exponent k j (omega (arith, p_is, g_is, double k)) in
    omega (arith, p_is, g_is, pow-le-pow_right {n = 2} (omega arith) low)

-- the least power of two that is c or more is at most any other
pub least_power : (c p g : ℕ) → IsPowerOfTwo p → p / 2 < max 1 c → IsPowerOfTwo g → c ≤ g → p ≤ g
least_power c p g power least other le = power-le p g power other (omega (arith, power_some g other))

pub max_power : (p g : ℕ) → IsPowerOfTwo p → IsPowerOfTwo g → IsPowerOfTwo (max p g)
max_power p g power other =
    elim (cases_lt p g) [
      | inl less ↦ let is : g ≡ max p g = omega arith in subst IsPowerOfTwo is other
      | inr more ↦ let is : p ≡ max p g = omega arith in subst IsPowerOfTwo is power
    ]

-- of a number of chunks and a grain: the number of spans says how long the spans are
pub ceil-le : (n g : ℕ) → 0 < g → div_ceil n g ≤ 1024 → div_ceil n 1024 ≤ g
ceil-le n g some few =
    let whole : n ≡ n / g * g + n % g = sym (div-add-mod' n g) in
    let most : n ≤ 1024 * g = elim (cases_lt 0 (n % g)) [
      | inl rest ↦
          let less : n / g + 1 ≤ 1024 = omega (arith, few) in
          let m = mul-le (n / g + 1) g 1024 g less (omega arith) in
          omega (arith, m, whole, lt-div-mul-add {a = n} {b = g} some)
      | inr none ↦
          let less : n / g ≤ 1024 = omega (arith, few) in
          let m = mul-le (n / g) g 1024 g less (omega arith) in
          omega (arith, m, whole)
    ] in
    omega arith
