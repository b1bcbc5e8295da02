-- Claims and their seats, as contracts see them.
use Rattle.std.specs.Prelude.{◌≡◌, ℕ, ◌<◌, List, ◌++◌, length, true}
use Rattle.atomic_table.specs.Seated.{TableId}
use Rattle.b3_claims.specs.Claiming.{is_set}
use Rattle.b3_claims.specs.declared.claim_rule.View.{View}

-- claims: how many indexes there are, and the table of their words
pub record ClaimsState : Type 0 where
  pub count : ℕ
  pub table : TableId

-- a seat: what it knows, and the table that it steps on
pub record SeatState : Type 0 where
  pub view : View
  pub table : TableId

-- the seat is of these claims
abbrev pub IsSeatOf : ClaimsState → SeatState → Type 0
IsSeatOf claims seat = (seat.table ≡ claims.table) × (length seat.view.seen ≡ claims.count)

-- the seat has seen each index below n
abbrev pub HasSeenAll : ℕ → SeatState → Type 0
HasSeenAll n seat = (i : ℕ) → i < n → is_set seat.view.seen i ≡ true

-- the list begins with the other one
abbrev pub BeginsWith : List ℕ → List ℕ → Type 0
BeginsWith list start = (rest : List ℕ) × (list ≡ start ++ rest)
