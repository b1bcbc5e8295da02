use Rattle.std.proofs.Common.{◌≡◌, ℕ, ◌-◌, ◌<◌, length, map, sum_by, true}
use Rattle.b3_core.specs.Tree.{chunks}
use Rattle.b3_board.specs.Entries.{ApartBut, Sound, at, is_kept, kept_chunk, kept_count, open_span}
use Rattle.b3_board.proofs.merging.merge_up.Given as goal

abbrev pub invariant-loop-other : goal.invariant-loop-other
invariant-loop-other g l = record {
  inside : l.here < length l.entries;
  kept : is_kept (at l.entries l.here).state ≡ true;
  sound : Sound g.L.InputLedger.input g.L.InputLedger.mode g.L.InputLedger.first l.entries;
  apart : ApartBut (chunks g.L.InputLedger.input.len) l.here l.entries;
  same_chunks : (k : ℕ) → sum_by (kept_chunk k) l.entries ≡ sum_by (kept_chunk k) l.fn.entries;
  same_count : sum_by kept_count l.entries ≡ sum_by kept_count l.fn.entries;
  same_open : map open_span l.entries ≡ map open_span l.fn.entries;
}

abbrev pub decreases-loop-other : goal.decreases-loop-other
decreases-loop-other g l = chunks g.L.InputLedger.input.len - (at l.entries l.here).span.count
