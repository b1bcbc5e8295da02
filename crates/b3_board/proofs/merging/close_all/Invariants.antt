use Rattle.std.proofs.Common.{◌≡◌, ℕ, ◌+◌, ◌<◌, None, length}
use Rattle.std.specs.List.{sum_by}
use Rattle.b3_board.specs.Entries.{Lawful, at, kept_count, open_span}
use Rattle.b3_board.proofs.merging.close_all.Given as goal

abbrev pub invariant-spans : goal.invariant-spans
invariant-spans g l = record {
  lawful : Lawful g.L.InputLedger.input g.L.InputLedger.mode g.L.InputLedger.first l.entries;
  closed : (i : ℕ) → i < l.place → open_span (at l.entries i) ≡ None;
  len : length l.entries ≡ length l.fn.entries;
  count : sum_by kept_count l.entries ≡ sum_by kept_count l.fn.entries + l.count;
}
