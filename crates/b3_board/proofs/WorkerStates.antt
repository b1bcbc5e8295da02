-- Sums over what workers hold, and the chunks of the spans that they claimed.
use Rattle.std.proofs.Common.{◌≡◌, ℕ, zero, suc, ◌+◌, ◌*◌, ◌<◌, ◌≤◌, ◌^◌, List, [], ◌∷◌, length, get_or, refl, ap, ◌∙◌, arith, mul-le-mul_right}
use Rattle.std.specs.List.{sum_by}
use Rattle.std.proofs.lemmas.List.Sums.{sum_by-append, sum_by-cons, sum_by-le}
use Rattle.b3_core.specs.declared.spans.Span.{Span}
use Rattle.b3_claims.specs.Claiming.{joined}
use Rattle.b3_board.specs.Spans.{chunks_in}
use Rattle.b3_board.specs.WorkerRuns.{claimed_chunks, count_at}
use Rattle.b3_claims.specs.declared.claim_rule.View.{View}

-- lists of one length whose elements agree under f, place by place, have one sum
pub sum_by-same : {X : Type 0} (f : X → ℕ) (xs ys : List X) → length xs ≡ length ys
    → ((i : ℕ) (d : X) → i < length ys → f (get_or xs i d) ≡ f (get_or ys i d))
    → sum_by f xs ≡ sum_by f ys
sum_by-same f [] [] e each = refl
sum_by-same f [] (y ∷ ys) e each = absurd (omega arith)
sum_by-same f (x ∷ xs) [] e each = absurd (omega arith)
sum_by-same f (x ∷ xs) (y ∷ ys) e each =
    let here : f x ≡ f y = each 0 x (omega arith) in
    let rest = sum_by-same f xs ys (omega arith) (λ i d lt. each (suc i) d (omega arith)) in
    let first = sum_by-cons f x xs in
    let second = sum_by-cons f y ys in
    omega arith

pub claimed_chunks-joined : (spans : List Span) (u v w : View) → u ≡ joined v w
    → claimed_chunks spans u.claimed ≡ claimed_chunks spans v.claimed + claimed_chunks spans w.claimed
claimed_chunks-joined spans u v w e =
    ap (λ (x : View). claimed_chunks spans x.claimed) e ∙ sum_by-append (count_at spans) v.claimed w.claimed

-- no span has more chunks than all of them together
count_at-le : (spans : List Span) (i : ℕ) → count_at spans i ≤ chunks_in spans
count_at-le [] i = omega arith
count_at-le (s ∷ spans) zero = let all = sum_by-cons (λ (t : Span). t.count) s spans in omega arith
count_at-le (s ∷ spans) (suc i) =
    let rest = count_at-le spans i in
    let all = sum_by-cons (λ (t : Span). t.count) s spans in
    omega arith

pub claimed_chunks-le : (spans : List Span) (list : List ℕ) → chunks_in spans ≤ 2 ^ 20 → length list ≤ 1024
    → claimed_chunks spans list ≤ 2 ^ 30
claimed_chunks-le spans list few short =
    let each : claimed_chunks spans list ≤ length list * chunks_in spans =
    sum_by-le (count_at spans) (chunks_in spans) list (λ k d lt. count_at-le spans _) in
    let wide : length list * chunks_in spans ≤ 1024 * chunks_in spans = mul-le-mul_right (chunks_in spans) short in
    omega arith
