-- Workers at the spans of a plan, as contracts see them.
use Rattle.std.specs.Prelude.{◌≡◌, ℕ, ◌+◌, ◌≤◌, true, List, map, nat_lt, slice_index}
use Rattle.std.specs.List.{sum_by}
use Rattle.b3_core.specs.Tree.{top}
use Rattle.b3_core.specs.declared.spans.Span.{Span}
use Rattle.b3_claims.specs.Claiming.{one_if, occurrences}
use Rattle.b3_board.specs.Plans.{PlanState}
use Rattle.b3_board.specs.RootNodes.{RootNode}
use Rattle.b3_claims.specs.Seats.{BeginsWith, HasSeenAll, SeatState}
use Rattle.b3_board.specs.Shares.{ShareState}

-- the root of the plan's input, kept by a board
abbrev pub kept_root : PlanState → RootNode
kept_root plan = record { node = top plan.mode plan.first plan.input; kept = true }

-- the chunks of span i, and past the end 0
abbrev pub count_at : List Span → ℕ → ℕ
count_at spans i = slice_index (map (λ s. s.count) spans) i

-- the chunks of the spans whose indexes are in the list
abbrev pub claimed_chunks : List Span → List ℕ → ℕ
claimed_chunks spans list = sum_by (count_at spans) list

-- a worker went through the first n spans: seat and share have their old parts, the seat has seen each of
-- these indexes, its list begins with the old one, and the share grew by no more than the chunks of the
-- spans that it newly claimed
pub record HasWorked (spans : List Span) (n : ℕ) (old_seat : SeatState) (old_share : ShareState) (seat : SeatState)
    (share : ShareState) : Type 0 where
  pub seat_parts : seat.view.parts ≡ old_seat.view.parts
  pub share_parts : share.parts ≡ old_share.parts
  pub seen : HasSeenAll n seat
  pub begins : BeginsWith seat.view.claimed old_seat.view.claimed
  pub grown : share.chunks + claimed_chunks spans old_seat.view.claimed
      ≤ old_share.chunks + claimed_chunks spans seat.view.claimed

-- each index below n stands in the list once, and no other
abbrev pub HasEachOnce : ℕ → List ℕ → Type 0
HasEachOnce n list = (i : ℕ) → occurrences i list ≡ one_if (nat_lt i n)
