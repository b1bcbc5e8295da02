-- What one more try of a worker does to what it has done.
use Rattle.std.proofs.Common.{◌≡◌, ℕ, ◌+◌, ◌<◌, ◌≤◌, Bool, true, false, List, [], ◌∷◌, ◌++◌, length, set, sym, subst, ap, ◌∙◌, arith, if◌then◌else◌, append_assoc}
use Rattle.std.proofs.lemmas.List.Sums.{sum_by_push}
use mathlib.Core.Logic.{dite}
use native.Mathlib.Decide.{ℕ_discrete}
use Rattle.b3_core.specs.declared.spans.Span.{Span}
use Rattle.b3_claims.specs.Claiming.{is_set, tried}
use Rattle.b3_claims.specs.Seats.{BeginsWith, SeatState}
use Rattle.b3_board.specs.Shares.{ShareState}
use Rattle.b3_board.specs.WorkerRuns.{HasWorked, claimed_chunks, count_at}
use Rattle.b3_claims.specs.declared.claim_rule.View.{View}
use Rattle.b3_claims.proofs.ClaimedIndexes.{is_set-set_kept, is_set-set_same}

is_set-tried : (v : View) (i j : ℕ) (won : Bool) → i < length v.seen → ((k : ℕ) → k < i → is_set v.seen k ≡ true) → j < i + 1
    → is_set (tried v i won).seen j ≡ true
is_set-tried v i j won inside before lt =
    dite (ℕ_discrete j i)
    (λ same. subst (λ (k : ℕ). is_set (set v.seen i true) k ≡ true) (sym same) (is_set-set_same v.seen i inside))
    (λ other. is_set-set_kept v.seen i j (before j (omega arith)))

BeginsWith-tried : (v : View) (i : ℕ) (won : Bool) (start : List ℕ) → BeginsWith v.claimed start
    → BeginsWith (tried v i won).claimed start
BeginsWith-tried v i true start begins =
    (begins.0 ++ i ∷ [], ap (λ (xs : List ℕ). xs ++ i ∷ []) begins.1 ∙ append_assoc start begins.0 (i ∷ []))
BeginsWith-tried v i false start begins = begins

claimed_chunks-tried : (spans : List Span) (v : View) (i : ℕ) (won : Bool)
    → claimed_chunks spans (tried v i won).claimed
    ≡ claimed_chunks spans v.claimed + (if won then count_at spans i else 0)
claimed_chunks-tried spans v i true = sum_by_push (count_at spans) v.claimed i
claimed_chunks-tried spans v i false = omega arith

pub HasWorked-tried : (spans : List Span) (i : ℕ) (won : Bool) (old_seat seat next_seat : SeatState)
    (old_share share next_share : ShareState)
    → HasWorked spans i old_seat old_share seat share
    → i < length seat.view.seen
    → next_seat.view ≡ tried seat.view i won
    → next_share.parts ≡ share.parts
    → next_share.chunks ≤ share.chunks + (if won then count_at spans i else 0)
    → HasWorked spans (i + 1) old_seat old_share next_seat next_share
HasWorked-tried spans i won old_seat seat next_seat old_share share next_share worked inside view parts grown =
    let v = seat.view in
    let before = worked.grown in
    let more = claimed_chunks-tried spans v i won in
    let now : claimed_chunks spans next_seat.view.claimed ≡ claimed_chunks spans (tried v i won).claimed =
    ap (λ (w : View). claimed_chunks spans w.claimed) view in
    record {
      seat_parts = ap (λ (w : View). w.parts) view ∙ worked.seat_parts;
      share_parts = parts ∙ worked.share_parts;
      seen = λ j lt. ap (λ (w : View). is_set w.seen j) view ∙ is_set-tried v i j won inside worked.seen lt;
      begins = subst (λ (w : View). BeginsWith w.claimed old_seat.view.claimed) (sym view)
          (BeginsWith-tried v i won old_seat.view.claimed worked.begins);
      grown = omega arith;
    }
