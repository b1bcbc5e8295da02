-- A deposit, and what else the calls of a board say, on its state.
use Rattle.std.proofs.Common.{inl, inr, ◌⊎◌, ◌≡◌, ℕ, suc, ◌+◌, ◌<◌, List, [], ◌∷◌, length, map, set, Option, Some, None, arith, refl, sym, subst, ap, ◌∙◌}
use Rattle.std.proofs.lemmas.Bool.{cases_lt}
use Rattle.std.proofs.lemmas.List.{get_or_past}
use Rattle.std.specs.List.{All, Contains, cons_option, filter_map, slice_get, sum_by}
use Rattle.std.specs.Option.{IfNone, IfSome}
use Rattle.b3_core.specs.declared.modes.Mode.{Mode}
use Rattle.b3_core.specs.declared.spans.Span.{Span}
use Rattle.b3_board.specs.Entries.{IsInOrder, NoneOpen, at, kept_chunk, nothing, open_span, open_spans, pieces, some_open}
use Rattle.b3_board.specs.BoardStates.{IsAscending, IsDeposit, Piece, ahead, no_spans}
use Rattle.b3_board.specs.Spans.{KnownInput, chunk_in}
use Rattle.b3_board.specs.declared.entries.Entry.{Entry}
use Rattle.b3_board.specs.declared.entries.State.TheVariants.{Open}
use Rattle.b3_board.proofs.Filtered.{All-filter_map, Contains-from_place, place-from_Contains}
use Rattle.b3_board.proofs.LawfulStates.{kept_is_span, kept_span, kept_spans, open_is, state_of, times_kept}
use Rattle.b3_board.proofs.OpenSpans.{loses_span}

-- an entry that is open is one of the open spans, and the other way round
pub Contains-open : (es : List Entry) (i : ℕ) (s : Span) → i < length es → (at es i).state ≡ Open → (at es i).span ≡ s
    → Contains (open_spans es) s
Contains-open es i s short state_is span_is =
    Contains-from_place open_span es nothing s i short (λ j. some_open (state_is j) (span_is j))

pub not_open : (es : List Entry) (s : Span) → ((i : ℕ) → (at es i).state ≡ Open → (at es i).span ≡ s → ⊥)
    → ¬ Contains (open_spans es) s
not_open es s none there =
    let (i, short, is) = place-from_Contains open_span es nothing s there in
    let (state_is, span_is) = open_is (at es i).state (at es i).span s is in
    none i state_is span_is

-- the first of some spans
first_of : (ss : List Span) (s : Span) → slice_get ss 0 ≡ Some s → Contains ss s
first_of [] s is = cc
first_of (x ∷ ss) s is = (0, omega arith, cc)

no_first : (ss : List Span) → slice_get ss 0 ≡ None → ss ≡ []
no_first [] is = refl
no_first (x ∷ ss) is = cc

-- what holds of each open entry's span holds of the first open span
module _ (es : List Entry) where
  pub first_open : (P : Span → Type 0) → ((i : ℕ) → (at es i).state ≡ Open → P (at es i).span)
      → (o : Option Span) → o ≡ slice_get (open_spans es) 0 → IfSome o P
  first_open P each None is = tt
  first_open P each (Some s) is =
      let (i, short, here) = place-from_Contains open_span es nothing s (first_of (open_spans es) s (sym is)) in
      let (state_is, span_is) = open_is (at es i).state (at es i).span s here in
      subst P span_is (each i state_is)

  pub first_open-Contains : (o : Option Span) → o ≡ slice_get (open_spans es) 0 → IfSome o (Contains (open_spans es))
  first_open-Contains None is = tt
  first_open-Contains (Some s) is = first_of (open_spans es) s (sym is)

  pub first_open-none : (o : Option Span) → o ≡ slice_get (open_spans es) 0 → IfNone o (open_spans es ≡ [])
  first_open-none None is = no_first (open_spans es) (sym is)
  first_open-none (Some s) is = tt

-- a span of the board that was closed is deposited
pub deposited : (input : KnownInput) (mode : Mode) (first : ℕ) (es fs : List Entry) (place : ℕ) (s : Span)
    (book : ℕ)
    → (at es place).state ≡ Open → (at es place).span ≡ s → map open_span fs ≡ set (map open_span es) place None
    → ((k : ℕ) → sum_by (kept_chunk k) fs
    ≡ sum_by (kept_chunk k) es + chunk_in k (at es place).span.first (at es place).span.count)
    → IsDeposit (state_of input mode first es book) s (state_of input mode first fs (book + s.count))
deposited input mode first es fs place s book state_is span_is opens chunks = record {
  input_stays = refl;
  mode_stays = refl;
  first_stays = refl;
  opens = loses_span es fs place s state_is span_is opens;
  joins = λ k.
      let counted : sum_by (kept_chunk k) fs ≡ sum_by (kept_chunk k) es + chunk_in k s.first s.count =
      chunks k ∙ ap (λ (t : Span). sum_by (kept_chunk k) es + chunk_in k t.first t.count) span_is in
      omega (arith, counted, times_kept k es, times_kept k fs);
  books = refl;
}

option_cases : {Y : Type 0} (o : Option Y) → (o ≡ None) ⊎ ((y : Y) × (o ≡ Some y))
option_cases None = inl refl
option_cases (Some y) = inr (y, refl)

-- no entry is open exactly where there is no open span
pub none_open-from_nil : (es : List Entry) → open_spans es ≡ [] → NoneOpen es
none_open-from_nil es nil i =
    elim (cases_lt i (length es)) [
      | inr past ↦ ap open_span (get_or_past es i nothing past)
      | inl short ↦
          elim (option_cases (open_span (at es i))) [
            | inl none ↦ none
            | inr (s, is) ↦
                let one = Contains-from_place open_span es nothing s i short is in
                let (k, lt, there) = subst (λ (ss : List Span). Contains ss s) nil one in
                absurd (omega arith)
          ]
    ]

pub nil-from_none_open : (es : List Entry) → NoneOpen es → open_spans es ≡ []
nil-from_none_open [] none = refl
nil-from_none_open (e ∷ es) none =
    (λ i. cons_option (none 0 i) (open_spans es)) ∙ nil-from_none_open es (λ i. none (suc i))

-- what is kept of entries in order is ascending
ascending_cons : (o : Option Span) (ss : List Span) → ((s : Span) → o ≡ Some s → All (λ t. s.first < t.first) ss)
    → IsAscending ss
    → IsAscending (cons_option o ss)
ascending_cons None ss low rest = rest
ascending_cons (Some s) ss low rest = ahead (low s refl) rest

ascending : (f : Entry → Option Span) → ((e : Entry) (s : Span) → f e ≡ Some s → e.span ≡ s) → (es : List Entry)
    → IsInOrder es
    → IsAscending (filter_map f es)
ascending f is [] up = no_spans
ascending f is (e ∷ es) up =
    ascending_cons (f e) (filter_map f es)
    (λ s here. All-filter_map f (λ (t : Span). s.first < t.first) es nothing
    (λ i t short there.
    let lt = up 0 (suc i) (omega arith) (omega arith) in
    omega (arith, lt, ap (λ (x : Span). x.first) (is e s here), ap (λ (x : Span). x.first) (is (at es i) t there))))
    (ascending f is es (λ i j lt short. up (suc i) (suc j) (omega arith) (omega arith)))

pub open_ascending : (es : List Entry) → IsInOrder es → IsAscending (open_spans es)
open_ascending es up = ascending open_span (λ e s is. (open_is e.state e.span s is).1) es up

pub pieces_ascending : (es : List Entry) → IsInOrder es → IsAscending (map (λ (p : Piece). p.span) (pieces es))
pieces_ascending es up =
    subst IsAscending (sym (kept_spans es))
    (ascending kept_span (λ e s is. (kept_is_span e.state e.span s is).1) es up)
