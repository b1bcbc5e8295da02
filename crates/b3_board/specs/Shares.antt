-- A share of a board's ledger, as contracts see it.
use Rattle.std.specs.Prelude.{ℕ, ◌+◌}

-- how many of the ledger's parts, and how many chunks deposited under them
pub record ShareState : Type 0 where
  pub parts : ℕ
  pub chunks : ℕ

-- the share after a deposit of c chunks
abbrev pub grown : ShareState → ℕ → ShareState
grown share c = record share { chunks = share.chunks + c }
